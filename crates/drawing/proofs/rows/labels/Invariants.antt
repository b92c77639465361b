use Rattle.std.proofs.Common.{◌≡◌, ℕ, ◌+◌, ◌-◌, ◌<◌, ◌≤◌, max, length, slice_index_or, string_bytes, String}
use Rattle.drawing.specs.Rows.{label_text, row_at}
use Rattle.drawing.proofs.rows.labels.Given as goal

-- a label for each place so far
abbrev pub invariant-loop-place : goal.invariant-loop-place
invariant-loop-place l = record {
  within : l.place ≤ max l.fn.span.from l.fn.span.to;
  as_many : length l.labels.items ≡ l.place - l.fn.span.from;
  each : (k : ℕ) (d : String _) → k < length l.labels.items → string_bytes (slice_index_or l.labels.items k d) ≡ label_text (l.fn.span.from + k) (row_at l.turns (l.fn.span.from + k));
}
