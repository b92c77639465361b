use Rattle.std.proofs.Common.{ℕ, ◌≤◌, ◌<◌}
use Rattle.table.specs.Names.{Named}
use Rattle.table.proofs.names.next_named.Given as goal

abbrev pub invariant-loop-i : goal.invariant-loop-i
invariant-loop-i l = (j : ℕ) → l.from ≤ j → j < l.i → Named l.names l.name j → ⊥
