use Rattle.wire.proofs.Largest.{Below}
use Rattle.wire.proofs.lists.largest.Given as goal

abbrev pub invariant-loop-byte : goal.invariant-loop-byte
invariant-loop-byte l = Below l.bytes l.largest l.byte-index
