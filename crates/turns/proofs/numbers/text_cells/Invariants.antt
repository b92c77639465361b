use Rattle.std.proofs.Common.{◌≡◌, ℕ, ◌<◌, None, option_map, length, slice_index_or}
use Rattle.table.specs.Contents.{bytes_of}
use Rattle.table.specs.declared.content.Content.{Content}
use Rattle.turns.specs.Numbers.{text_cell}
use Rattle.turns.proofs.numbers.text_cells.Given as goal

abbrev pub invariant-loop-content : goal.invariant-loop-content
invariant-loop-content l = record {
  all : length l.cells.items ≡ l.content-index;
  each : (i : ℕ) (d : Content) → i < l.content-index → option_map (λ b. b.now) (slice_index_or l.cells.items i None) ≡ text_cell (bytes_of (slice_index_or l.contents i d));
}
