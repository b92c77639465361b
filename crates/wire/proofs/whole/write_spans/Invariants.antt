use Rattle.std.proofs.Common.{◌≡◌}
use Rattle.wire.specs.Lists.{span_of}
use Rattle.wire.proofs.Fronts.{partly}
use Rattle.wire.proofs.whole.write_spans.Given as goal

abbrev pub invariant-loop-k : goal.invariant-loop-k
invariant-loop-k l = l.spans ≡ partly span_of l.groups l.k l.initial.spans
