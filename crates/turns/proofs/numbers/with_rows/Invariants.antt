use Rattle.std.proofs.Common.{◌≡◌, ℕ, ◌<◌, length, slice_index_or}
use Rattle.turns.proofs.numbers.with_rows.Given as goal

abbrev pub invariant-loop-row : goal.invariant-loop-row
invariant-loop-row g l = record {
  all : length l.rows.items ≡ l.row;
  each : (i : ℕ) (d : _) → i < l.row → slice_index_or l.rows.items i d ≡ (slice_index_or l.keys i d.0, i);
}
