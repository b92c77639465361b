-- The text that is written: each record with its answer behind it. Assumes nothing.
use Rattle.std.specs.Prelude.{◌≡◌, ℕ, ◌+◌, ◌<◌, List, [], ◌∷◌, ◌++◌, length, slice_index, slice_index_or}
use Rattle.std.specs.Borrow.{Bor}
use Rattle.std.specs.List.{concat}
use Rattle.table.specs.Fields.{IsField, Plain}
use Rattle.turns.specs.declared.layout.Turn.{Turn}

-- a record as it stands, with one field of this content behind it, bare where it may be
pub record Line (raw content line : List ℕ) : Type 0 where
  pub field : List ℕ
  pub is : IsField field content
  pub bare : Plain content → field ≡ content
  pub whole : line ≡ raw ++ (44 ∷ (field ++ (10 ∷ [])))

-- a record with an answer behind it
abbrev pub AnswerLine : {A : Type 0} → (A → List ℕ → Type 0) → List ℕ → A → List ℕ → Type 0
AnswerLine writes raw answer line = (content : List ℕ) × writes answer content × Line raw content line

-- for each row a place at which a turn of it stands
pub record Places (turns : List Turn) (places : List ℕ) : Type 0 where
  pub as_many : length places ≡ length turns
  pub within : (row : ℕ) → row < length places → slice_index places row < length turns
  pub each : (row : ℕ) (d : Turn) → row < length places → (slice_index_or turns (slice_index places row) d).row ≡ row

-- each of so many rows has a turn
abbrev pub HaveTurns : ℕ → List Turn → Type 0
HaveTurns n turns = (row : ℕ) → row < n → (place : ℕ) × (place < length turns) × ((d : Turn) → (slice_index_or turns place d).row ≡ row)

-- each record below the header has one turn
abbrev pub AllRows : List (Bor (List ℕ)) → List Turn → Type 0
AllRows records turns = (length records ≡ length turns + 1) × HaveTurns (length turns) turns

-- the answer of a row stands where its turn does
pub record AnswerOf {A : Type 0} (turns : List Turn) (answers : List A) (row : ℕ) (answer : A) : Type 0 where
  pub place : ℕ
  pub within : place < length turns
  pub turn : (d : Turn) → (slice_index_or turns place d).row ≡ row
  pub is : (d : A) → slice_index_or answers place d ≡ answer

-- for each record below the header a line with the answer of its row
pub record Lines {A : Type 0} (writes : A → List ℕ → Type 0) (turns : List Turn) (answers : List A) (records : List (Bor (List ℕ))) (lines : List (List ℕ)) : Type 0 where
  pub as_many : length lines ≡ length records
  pub each : (row : ℕ) (d : Bor (List ℕ)) → row < length records → (answer : A) × AnswerOf turns answers row answer × AnswerLine writes (slice_index_or records row d).now answer (slice_index_or lines row [])

-- a text goes on with these lines
abbrev pub Wrote : {A : Type 0} → (A → List ℕ → Type 0) → List Turn → List A → List (Bor (List ℕ)) → List ℕ → List ℕ → Type 0
Wrote writes turns answers records old new = (lines : List (List ℕ)) × (new ≡ old ++ concat lines) × Lines writes turns answers records lines

-- the whole text: the header with the name of the new column, and the records with the answers
pub record Written {A : Type 0} (writes : A → List ℕ → Type 0) (turns : List Turn) (answers : List A) (records : List (Bor (List ℕ))) (name text : List ℕ) : Type 0 where
  pub header : Bor (List ℕ)
  pub rows : List (Bor (List ℕ))
  pub all : records ≡ header ∷ rows
  pub head : List ℕ
  pub named : Line header.now name head
  pub answered : Wrote writes turns answers rows head text
