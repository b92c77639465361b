-- Raw fields, what they say, and what is wrong where none can be read. Assumes nothing.
use Rattle.std.specs.Prelude.{◌≡◌, ◌≢◌, ℕ, ◌<◌, ◌⊎◌, ◌==◌, ◌||◌, Bool, false, cond, List, [], ◌∷◌, ◌++◌, length, slice_index, slice_get, Some}
use Rattle.table.specs.declared.fault.Fault.{Fault}
use Rattle.table.specs.declared.fault.Fault.TheVariants.{Empty, QuoteInside, LoneReturn, AfterQuote, Unclosed, Ragged}
use Rattle.table.specs.declared.field.Then.{Then}
use Rattle.table.specs.declared.field.Then.TheVariants.{Comma, Line, End}

-- a quote, a comma, a line feed or a carriage return
abbrev pub special : ℕ → Bool
special b = (b == 34) || (b == 44) || (b == 10) || (b == 13)

-- a text without any of them
abbrev pub Plain : List ℕ → Type 0
Plain bs = (k : ℕ) → k < length bs → special (slice_index bs k) ≡ false

-- a text with each quote twice
abbrev pub doubled : List ℕ → List ℕ
doubled [] = []
doubled (b ∷ bs) = cond (b == 34) (34 ∷ 34 ∷ doubled bs) (b ∷ doubled bs)

-- a text between quotes, with each quote of it twice
abbrev pub quoted : List ℕ → List ℕ
quoted bs = 34 ∷ (doubled bs ++ (34 ∷ []))

-- what comes behind an opening quote, where none closes the field
abbrev pub Open : List ℕ → Type 0
Open body = (content : List ℕ) × (body ≡ doubled content)

-- the quote at a place closes the field: the one behind it does not double it
abbrev pub Closed : List ℕ → ℕ → Type 0
Closed body at = (content rest : List ℕ) × (body ≡ doubled content ++ (34 ∷ rest)) × (at ≡ length (doubled content)) × (slice_get rest 0 ≢ Some 34)

-- a field as it stands in a file, and its content: a plain one is its content
abbrev pub IsField : List ℕ → List ℕ → Type 0
IsField raw content = ((raw ≡ content) × Plain content) ⊎ (raw ≡ quoted content)

-- a raw field
abbrev pub Field : List ℕ → Type 0
Field raw = (content : List ℕ) × IsField raw content

-- what may come behind a field: a comma, a line end, or the end of the text; and what comes behind that
abbrev pub After : List ℕ → Then → Type 0
After text (Comma rest) = text ≡ 44 ∷ rest.now
After text (Line rest) = (text ≡ 10 ∷ rest.now) ⊎ (text ≡ 13 ∷ 10 ∷ rest.now)
After text End = text ≡ []

-- a text that begins with no comma and no line end, and is not over
pub record Stray (text : List ℕ) : Type 0 where
  pub some : 0 < length text
  pub comma : slice_get text 0 ≢ Some 44
  pub feed : slice_get text 0 ≢ Some 10
  pub return : slice_get text 0 ≡ Some 13 → slice_get text 1 ≢ Some 10

-- a text begins with this field and ends there, or goes on so
abbrev pub Cuts : List ℕ → List ℕ → Then → Type 0
Cuts text raw then = (behind : List ℕ) × (text ≡ raw ++ behind) × Field raw × After behind then

-- what a plain field does not go on with: a quote, or a carriage return without a line feed
abbrev pub Breaks : List ℕ → Fault → Type 0
Breaks rest Empty = ⊥
Breaks rest QuoteInside = slice_get rest 0 ≡ Some 34
Breaks rest LoneReturn = (slice_get rest 0 ≡ Some 13) × (slice_get rest 1 ≢ Some 10)
Breaks rest AfterQuote = ⊥
Breaks rest Unclosed = ⊥
Breaks rest (Ragged found expected) = ⊥

-- a plain field is begun, and broken at a place of the text
pub record Broken (text : List ℕ) (at : ℕ) (fault : Fault) : Type 0 where
  pub begun : List ℕ
  pub rest : List ℕ
  pub whole : text ≡ begun ++ rest
  pub plain : Plain begun
  pub unquoted : slice_get text 0 ≢ Some 34
  pub place : at ≡ length begun
  pub breaks : Breaks rest fault

-- behind a field in quotes stands what neither ends a field nor doubles the quote
pub record Trailed (text : List ℕ) (at : ℕ) : Type 0 where
  pub content : List ℕ
  pub rest : List ℕ
  pub whole : text ≡ quoted content ++ rest
  pub place : at ≡ length (quoted content)
  pub stray : Stray rest
  pub single : slice_get rest 0 ≢ Some 34

-- why a text does not begin with a field, and at which of its bytes that shows: for a quote that is never closed, at the quote
abbrev pub BadAt : List ℕ → ℕ → Fault → Type 0
BadAt text at Empty = ⊥
BadAt text at QuoteInside = Broken text at QuoteInside
BadAt text at LoneReturn = Broken text at LoneReturn
BadAt text at AfterQuote = Trailed text at
BadAt text at Unclosed = (at ≡ 0) × (content : List ℕ) × (text ≡ 34 ∷ doubled content)
BadAt text at (Ragged found expected) = ⊥

-- a text goes on with one field of this content, which is as it is where it is plain
pub record Wrote (old content new : List ℕ) : Type 0 where
  pub raw : List ℕ
  pub whole : new ≡ old ++ raw
  pub field : IsField raw content
  pub bare : Plain content → raw ≡ content
