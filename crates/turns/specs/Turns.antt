-- The rows of a table in turn. Assumes nothing.
use Rattle.std.specs.Prelude.{◌≡◌, ℕ, ◌<◌, List, length, min, slice_index, slice_index_or}
use Rattle.std.specs.Ordering.{nat_cmp, ordering_then}
use Rattle.std.specs.declared.cmp.Ordering.{Ordering}
use Rattle.turns.specs.declared.layout.Turn.{Turn}

-- row i has the number of its partition, that of its order, and its own
pub record FileOrder (partitions orders : List ℕ) (turns : List Turn) : Type 0 where
  pub all : length turns ≡ min (length partitions) (length orders)
  pub each : (i : ℕ) (d : Turn) → i < length turns → slice_index_or turns i d ≡ record { partition = slice_index partitions i; order = slice_index orders i; row = i }

-- by partition, then by order, then by row
abbrev pub turn_cmp : Turn → Turn → Ordering
turn_cmp a b = ordering_then (nat_cmp a.partition b.partition) (ordering_then (nat_cmp a.order b.order) (nat_cmp a.row b.row))
