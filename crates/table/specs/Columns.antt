-- The contents of a table's columns. Assumes nothing.
use Rattle.std.specs.Prelude.{◌≡◌, ℕ, ◌+◌, ◌-◌, ◌*◌, ◌/◌, ◌<◌, List, length, min, slice_index_or}
use Rattle.std.specs.Borrow.{Bor}
use Rattle.table.specs.declared.content.Content.{Content}
use Rattle.table.specs.Contents.{Says, bytes_of}

-- content k is what the raw field at its place says
abbrev pub SayFields : (ℕ → ℕ) → List (Bor (List ℕ)) → List Content → Type 0
SayFields place fields contents = (k : ℕ) (d : Content) (e : Bor (List ℕ)) → k < length contents → Says (slice_index_or fields (place k) e).now (bytes_of (slice_index_or contents k d))

-- the names of the columns: the contents of the first record
pub record NamesOf (width : ℕ) (fields : List (Bor (List ℕ))) (names : List Content) : Type 0 where
  pub all : length names ≡ min width (length fields)
  pub each : SayFields (λ k. k) fields names

-- the contents of a column, one for each record but the first
pub record ColumnOf (width : ℕ) (fields : List (Bor (List ℕ))) (column : ℕ) (contents : List Content) : Type 0 where
  pub all : length contents ≡ length fields / width - 1
  pub each : SayFields (λ k. (k + 1) * width + column) fields contents
