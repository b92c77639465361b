use Rattle.std.proofs.Common.{refl, rules}
use Rattle.rank.proofs.Whole.{covered, answered}
use Rattle.rank.proofs.graded.evaluate_graded.Goals as goal

pub write_graded-requires-clause-covers : goal.write_graded-requires-clause-covers
write_graded-requires-clause-covers g c =
    let k = c.in_ok-check_whole.ensures in
    covered _ _ _ (k.accepted refl) k.peers

pub returns-clause-call : goal.returns-clause-call
returns-clause-call g c =
    let e = answered _ _ _ (c.in_ok-check_whole.ensures.accepted refl) g.O.Output.stored (g.G.Graded.graded c.args.function.now) (g.O.Output.slots c.args.out.now) in
    search rules
