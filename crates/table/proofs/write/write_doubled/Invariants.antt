use Rattle.std.proofs.Common.{◌≡◌, ◌++◌, drop}
use Rattle.table.specs.Fields.{doubled}
use Rattle.table.proofs.write.write_doubled.Given as goal

abbrev pub invariant-loop-byte : goal.invariant-loop-byte
invariant-loop-byte l = l.out.items ++ doubled (drop l.byte-index l.content) ≡ l.initial.out.items ++ doubled l.content
