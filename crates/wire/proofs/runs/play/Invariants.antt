use Rattle.std.proofs.Common.{◌≡◌}
use Rattle.wire.proofs.Playing.{Playing}
use Rattle.wire.proofs.runs.play.Given as goal

abbrev pub invariant-loop-k : goal.invariant-loop-k
invariant-loop-k g l =
    let e = g.E in
    let o = g.O.Output in
    Playing e.Evaluator.meaning e.RowEvaluator.stepped e.RowEvaluator.settling e.Evaluator.renewed l.evaluator e.Evaluator.WANTS_FRAMES l.from_zero o.stored l.calls.shown.values.now l.calls.shown.marks.now l.calls.records.now (record { outcomes = l.initial.outcomes; answers = o.slots l.initial.out }) l.k l.run (record { outcomes = l.outcomes; answers = o.slots l.out })
    × (o.size (o.slots l.out) ≡ o.size (o.slots l.initial.out))
    × o.place l.initial.out l.out
