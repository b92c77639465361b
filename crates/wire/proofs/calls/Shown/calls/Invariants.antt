use Rattle.wire.specs.Calls.{rest_flaw}
use Rattle.wire.proofs.Flaws.{Passed}
use Rattle.wire.proofs.calls.Shown.calls.Given as goal

abbrev pub invariant-loop-k : goal.invariant-loop-k
invariant-loop-k g l = Passed l.self.values.now l.self.marks.now (rest_flaw l.bytes) l.records l.k
