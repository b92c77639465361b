-- Where fields stand in a text. Assumes nothing.
use Rattle.std.specs.Prelude.{◌≡◌, ℕ, ◌+◌, ◌-◌, ◌<◌, ◌⊎◌, List, [], ◌++◌, map, length, take}
use Rattle.std.specs.Borrow.{Bor}
use Rattle.std.specs.List.{flat_map}
use Rattle.table.specs.declared.fault.Fault.{Fault}
use Rattle.table.specs.Rows.{Leads, begun_text}
use Rattle.table.specs.Tables.{Ends, Entry, IsBody, NoTable, ReadsTo, Unmarked}

-- so many records of a table end at a byte, with their ends, and the rest is its other records
pub record Parted (body : List ℕ) (width : ℕ) (records fields : List (Bor (List ℕ))) (number at : ℕ) : Type 0 where
  pub rows : List Entry
  pub more : List Entry
  pub rest : List ℕ
  pub many : length rows ≡ number
  pub before : ReadsTo width body rows rest
  pub after : ReadsTo width rest more []
  pub records_are : records ≡ map (λ e. e.raw) (rows ++ more)
  pub fields_are : fields ≡ flat_map (λ e. e.fields) (rows ++ more)
  pub front : List ℕ
  pub whole : body ≡ front ++ rest
  pub at_is : at ≡ length front

-- a field begins behind so many records with their ends, and so many fields of the next with their commas
pub record FieldAt (body : List ℕ) (width number column at : ℕ) : Type 0 where
  pub rows : List Entry
  pub rest : List ℕ
  pub many : length rows ≡ number
  pub read : ReadsTo width body rows rest
  pub next : Entry
  pub behind : List ℕ
  pub leads : Leads rest next.raw.now next.fields behind
  pub wide : length next.fields ≡ width
  pub at_is : at ≡ (length body - length rest) + length (begun_text (take column next.fields))

-- the line and column of a field of a table, and of the text's end for a field that it lacks
pub record FieldPlace (text : List ℕ) (number column line place : ℕ) : Type 0 where
  pub body : List ℕ
  pub unmarked : Unmarked text body
  pub width : ℕ
  pub records : List (Bor (List ℕ))
  pub fields : List (Bor (List ℕ))
  pub read : IsBody body width records fields
  pub placed : number < length records → column < width → (at : ℕ) × FieldAt body width number column at × Ends (take at body) line place
  pub beyond : (number < length records → column < width → ⊥) → Ends body line place

-- the same, or of a text that is no table where its first fault stands
abbrev pub PlaceOf : List ℕ → ℕ → ℕ → ℕ → ℕ → Type 0
PlaceOf text number column line place = FieldPlace text number column line place ⊎ ((fault : Fault) × NoTable text line place fault)
