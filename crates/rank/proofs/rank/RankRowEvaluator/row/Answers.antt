use Rattle.std.proofs.Common.{◌≡◌, arith}
use Rattle.column.specs.Cells.{view}
use Rattle.rank.specs.Ranks.{state_after}
use Rattle.rank.proofs.RankRows.{ranks}
use Rattle.rank.proofs.rank.RankRowEvaluator.row.Goals as goal

pub returns-clause-call : goal.returns-clause-call
returns-clause-call g c =
    let t = c.args.turn.now in
    let r = c.in_ok-next.ensures in
    let s : c.step.new.self ≡ state_after g.K.Kind.same c.args.self.now.state (view t.window t.next) t.next = cc r.0 in
    ranks g.K.Kind.same g.met.K.Kind.reflexive c.args.self.now t.next t.window t.frame t.known c.requires (omega (arith, r)) _ s _ c.rank.ensures
