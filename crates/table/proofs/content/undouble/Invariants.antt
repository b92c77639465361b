use Rattle.std.proofs.Common.{◌≡◌, ◌++◌, drop, false}
use Rattle.table.proofs.Undoubled.{undoubled}
use Rattle.table.proofs.content.undouble.Given as goal

abbrev pub invariant-loop-byte : goal.invariant-loop-byte
invariant-loop-byte l = l.content.items ++ undoubled l.pending (drop l.byte-index l.body) ≡ undoubled false l.body
