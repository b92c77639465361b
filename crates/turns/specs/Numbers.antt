-- Rows numbered by keys. Assumes nothing.
use Rattle.std.specs.Prelude.{◌≡◌, ℕ, ℤ, ◌<◌, ◌⊎◌, ◌↔◌, List, [], ◌∷◌, length, map, min, slice_index, slice_index_or, Option, Some, None, Contains}
use Rattle.std.specs.Cmp.Lexicographic.{slice_cmp}
use Rattle.std.specs.List.{AllZip}
use Rattle.std.specs.Ordering.{int_cmp, nat_cmp, ordering_then}
use Rattle.std.specs.declared.cmp.Ordering.{Ordering}
use Rattle.std.specs.declared.cmp.Ordering.TheVariants.{Less, Equal, Greater}
use Rattle.fields.specs.Values.{SaysWhole}
use Rattle.table.specs.Contents.{bytes_of}
use Rattle.table.specs.declared.content.Content.{Content}

-- NULL comes last
abbrev pub null_last : {X : Type 0} → (X → X → Ordering) → Option X → Option X → Ordering
null_last cmp None None = Equal
null_last cmp None (Some y) = Greater
null_last cmp (Some x) None = Less
null_last cmp (Some x) (Some y) = cmp x y

-- numbers of the rows that have a number and a cell, below their count: two compare as the rows do by their numbers so far, and where these are the same by their cells
pub record Refined {X : Type 0} (cmp : X → X → Ordering) (numbers : List ℕ) (cells : List (Option X)) (refined : List ℕ) : Type 0 where
  pub all : length refined ≡ min (length numbers) (length cells)
  pub each : (i j : ℕ) → i < length refined → j < length refined → nat_cmp (slice_index refined i) (slice_index refined j) ≡ ordering_then (nat_cmp (slice_index numbers i) (slice_index numbers j)) (null_last cmp (slice_index_or cells i None) (slice_index_or cells j None))
  pub low : (i : ℕ) → i < length refined → slice_index refined i < length refined

-- the bytes of a content, NULL where it has none
abbrev pub text_cell : List ℕ → Option (List ℕ)
text_cell [] = None
text_cell (b ∷ bs) = Some (b ∷ bs)

-- by the bytes of a column's contents
abbrev pub ByBytes : List ℕ → List Content → List ℕ → Type 0
ByBytes numbers contents refined = Refined (slice_cmp nat_cmp) numbers (map (λ c. text_cell (bytes_of c)) contents) refined

-- two rows have one number exactly where they had one and their contents are the same
abbrev pub Alike : List ℕ → List Content → List ℕ → Type 0
Alike numbers contents refined = (i j : ℕ) (d : Content) → i < length refined → j < length refined → (slice_index refined i ≡ slice_index refined j) ↔ ((slice_index numbers i ≡ slice_index numbers j) × (bytes_of (slice_index_or contents i d) ≡ bytes_of (slice_index_or contents j d)))

-- a content says a whole number, or is NULL
abbrev pub SaysCell : List ℕ → Option ℤ → Type 0
SaysCell bs None = bs ≡ []
SaysCell bs (Some n) = SaysWhole bs n

-- each content says a cell
abbrev pub SayCells : List Content → List (Option ℤ) → Type 0
SayCells = AllZip (λ c. SaysCell (bytes_of c))

-- by what each content says
pub record ByValue (numbers : List ℕ) (contents : List Content) (refined : List ℕ) : Type 0 where
  pub cells : List (Option ℤ)
  pub says : SayCells contents cells
  pub by : Refined int_cmp numbers cells refined

-- some content says no cell
pub record Worded (contents : List Content) : Type 0 where
  pub content : Content
  pub here : Contains contents content
  pub worded : (cell : Option ℤ) → SaysCell (bytes_of content) cell → ⊥

-- by value where each content is a whole number or NULL, else by bytes
abbrev pub Ordered : List ℕ → List Content → List ℕ → Type 0
Ordered numbers contents refined = ByValue numbers contents refined ⊎ (Worded contents × ByBytes numbers contents refined)
