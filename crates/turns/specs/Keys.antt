-- Keys of rows as they are sorted. Assumes nothing.
use Rattle.std.specs.Prelude.{◌≡◌, ℕ, ◌<◌, Bool, true, false, List, length, min, slice_index, slice_index_or, Option, Some, None, option_map}
use Rattle.std.specs.Borrow.{Bor}
use Rattle.std.specs.Ordering.{nat_cmp}
use Rattle.std.specs.declared.cmp.Ordering.{Ordering}
use Rattle.table.specs.Contents.{bytes_of}
use Rattle.table.specs.declared.content.Content.{Content}
use Rattle.turns.specs.Numbers.{text_cell}

-- as many numbers as keys, below their count, and two compare as their keys do
pub record Numbered {K : Type 0} (cmp : K → K → Ordering) (keys : List K) (numbers : List ℕ) : Type 0 where
  pub all : length numbers ≡ length keys
  pub each : (i j : ℕ) (d : K) → i < length keys → j < length keys → nat_cmp (slice_index numbers i) (slice_index numbers j) ≡ cmp (slice_index_or keys i d) (slice_index_or keys j d)
  pub low : (i : ℕ) → i < length keys → slice_index numbers i < length keys

-- by key alone, of keys with their rows
abbrev pub key_cmp : {K : Type 0} → (K → K → Ordering) → K × ℕ → K × ℕ → Ordering
key_cmp cmp a b = cmp a.0 b.0

-- each key with its row
pub record WithRows {K : Type 0} (keys : List K) (rows : List (K × ℕ)) : Type 0 where
  pub all : length rows ≡ length keys
  pub each : (i : ℕ) (d : K × ℕ) → i < length rows → slice_index_or rows i d ≡ (slice_index_or keys i d.0, i)

-- each row of a key has the number of a key of that row
pub record AtRows {K : Type 0} (keys : List (K × ℕ)) (numbers placed : List ℕ) : Type 0 where
  pub all : length placed ≡ length keys
  pub each : (i : ℕ) (d : K × ℕ) → i < length keys → (j : ℕ) × (j < length keys) × ((slice_index_or keys j d).1 ≡ (slice_index_or keys i d).1) × (slice_index placed (slice_index_or keys i d).1 ≡ slice_index numbers j)

-- a number, whether the cell is NULL, and its value, for NULL one that is given
abbrev pub cell_key : {T : Type 0} → T → ℕ → Option T → ℕ × Bool × T
cell_key null number None = (number, true, null)
cell_key null number (Some value) = (number, false, value)

-- the keys of rows that have a number and a cell
pub record CellKeys {T : Type 0} (null : T) (numbers : List ℕ) (cells : List (Option T)) (keys : List (ℕ × Bool × T)) : Type 0 where
  pub all : length keys ≡ min (length numbers) (length cells)
  pub each : (i : ℕ) (d : ℕ × Bool × T) → i < length keys → slice_index_or keys i d ≡ cell_key null (slice_index numbers i) (slice_index_or cells i None)

-- the bytes of contents as cells
pub record TextCells (contents : List Content) (cells : List (Option (Bor (List ℕ)))) : Type 0 where
  pub all : length cells ≡ length contents
  pub each : (i : ℕ) (d : Content) → i < length cells → option_map (λ b. b.now) (slice_index_or cells i None) ≡ text_cell (bytes_of (slice_index_or contents i d))
