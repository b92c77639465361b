use Rattle.std.proofs.Common.{◌≡◌, ℕ, ◌<◌, None, length, slice_index, slice_index_or}
use Rattle.turns.specs.Keys.{cell_key}
use Rattle.turns.proofs.numbers.cell_keys.Given as goal

abbrev pub invariant-loop-row : goal.invariant-loop-row
invariant-loop-row g l = record {
  all : length l.keys.items ≡ l.row;
  each : (i : ℕ) (d : _) → i < l.row → slice_index_or l.keys.items i d ≡ cell_key l.null (slice_index l.numbers i) (slice_index_or l.cells i None);
}
