use Rattle.std.proofs.Common.{◌≡◌, ℕ, ◌+◌, ◌<◌, ◌≤◌, length, slice_index_or, string_bytes, String}
use Rattle.picture.specs.declared.row.Row.{Row}
use Rattle.drawing.specs.Rows.{ShowsRow, row_at}
use Rattle.drawing.proofs.rows.drawn_rows.Given as goal

-- a row for each label so far
abbrev pub invariant-loop-k : goal.invariant-loop-k
invariant-loop-k l = record {
  within : l.k ≤ l.k-end;
  as_many : length l.rows.items ≡ l.k;
  each : (k : ℕ) (d : Row) (e : String _) → k < length l.rows.items → ShowsRow l.columns l.seen l.span (l.span.from + k) (row_at l.turns (l.span.from + k)) (string_bytes (slice_index_or l.labels k e)) (slice_index_or l.rows.items k d);
}
