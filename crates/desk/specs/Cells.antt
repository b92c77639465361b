-- The cells that the fields of a column say. Assumes nothing.
use Rattle.std.specs.Prelude.{◌≡◌, ◌≢◌, ℕ, ◌+◌, ◌<◌, ◌⊎◌, List, [], length, take, None, Option, MatchOption, slice_index_or}
use Rattle.std.specs.Borrow.{Bor}
use Rattle.table.specs.declared.content.Content.{Content}
use Rattle.table.specs.Contents.{bytes_of}
use Rattle.desk.specs.declared.refusal.Refusal.{Refusal}
use Rattle.desk.specs.declared.refusal.Refusal.TheVariants.{Memory, NoValue}

-- NULL where a content is empty, else a value that it says
abbrev pub IsCell : {V : Type 0} → (List ℕ → V → Type 0) → List ℕ → Option V → Type 0
IsCell says content cell = MatchOption cell (content ≡ []) (λ v. (content ≢ []) × says content v)

-- a cell for each content, in order
pub record AreCells {V : Type 0} (says : List ℕ → V → Type 0) (contents : List Content) (cells : List (Option V)) : Type 0 where
  pub as_many : length cells ≡ length contents
  pub each : (k : ℕ) (d : Content) → k < length contents → IsCell says (bytes_of (slice_index_or contents k d)) (slice_index_or cells k None)

-- a content that is not empty is told to say no value, with its record and column
abbrev pub NoCell : List ℕ → ℕ → ℕ → Refusal → Type 0
NoCell content row column r = (content ≢ []) × ((kind : Bor (List ℕ)) × (r ≡ NoValue row column kind))

-- the content at a place is told to say no value, and those before it say cells; the header is record 0
pub record FirstBad {V : Type 0} (says : List ℕ → V → Type 0) (contents : List Content) (column : ℕ) (r : Refusal) : Type 0 where
  pub place : ℕ
  pub within : place < length contents
  pub cells : List (Option V)
  pub before : AreCells says (take place contents) cells
  pub here : (d : Content) → NoCell (bytes_of (slice_index_or contents place d)) (place + 1) column r

-- why contents give no cells: want of memory, or the first content that says no value
abbrev pub NoCells : {V : Type 0} → (List ℕ → V → Type 0) → List Content → ℕ → Refusal → Type 0
NoCells says contents column r = (r ≡ Memory) ⊎ FirstBad says contents column r
