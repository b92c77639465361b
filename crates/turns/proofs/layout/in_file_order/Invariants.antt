use Rattle.std.proofs.Common.{◌≡◌, ℕ, ◌<◌, length, slice_index, slice_index_or}
use Rattle.turns.specs.declared.layout.Turn.{Turn}
use Rattle.turns.proofs.layout.in_file_order.Given as goal

abbrev pub invariant-loop-row : goal.invariant-loop-row
invariant-loop-row l = record {
  all : length l.turns.items ≡ l.row;
  each : (i : ℕ) (d : Turn) → i < l.row → slice_index_or l.turns.items i d ≡ record { partition = slice_index l.partitions i; order = slice_index l.orders i; row = i };
}
