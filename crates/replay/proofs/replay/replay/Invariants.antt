use Rattle.std.proofs.Common.{◌≡◌, length, take, vec_items}
use Rattle.replay.specs.History.{history}
use Rattle.replay.proofs.Going.{Going}
use Rattle.replay.proofs.replay.replay.Given as goal

abbrev pub invariant-loop-call : goal.invariant-loop-call
invariant-loop-call g l = Going g.E.Evaluator.meaning g.E.RowEvaluator.stepped g.E.RowEvaluator.settling g.E.Evaluator.renewed l.evaluator g.E.Evaluator.WANTS_FRAMES l.from_zero l.run (history (take l.call-index l.calls) (vec_items l.entries))
    × (length (vec_items l.entries) ≡ l.call-index)
