use Rattle.std.proofs.Common.{arith}
use Rattle.rank.proofs.NumberRows.{numbers}
use Rattle.rank.proofs.row_number.RowNumberRowEvaluator.row.Goals as goal

pub returns-clause-call : goal.returns-clause-call
returns-clause-call g c =
    let t = c.args.turn.now in
    let r = c.in_ok-next.ensures in
    numbers c.args.self.now _ t.next t.window t.frame t.known c.requires (omega (arith, r)) (cc r.0) _ (cc r.0)
