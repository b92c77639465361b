-- The records of a text, and the first fault of a text that is no table. Assumes nothing.
use Rattle.std.specs.Prelude.{◌≡◌, ◌≢◌, ℕ, ◌+◌, ◌-◌, ◌<◌, ◌⊎◌, ◌==◌, ◌||◌, nat_lt, nat_le, Bool, List, [], ◌∷◌, ◌++◌, map, length, take, count_by}
use Rattle.std.specs.Borrow.{Bor}
use Rattle.std.specs.List.{flat_map}
use Rattle.std.specs.Str.Iter.{LacksByte}
use Rattle.table.specs.declared.fault.Fault.{Fault}
use Rattle.table.specs.declared.fault.Fault.TheVariants.{Empty, QuoteInside, LoneReturn, AfterQuote, Unclosed, Ragged}
use Rattle.table.specs.declared.fault.Unread.{Unread}
use Rattle.table.specs.declared.fault.Unread.TheVariants as refusals
use Rattle.table.specs.declared.stop.Stop.{Stop}
use Rattle.table.specs.declared.stop.Stop.TheVariants.{Memory, At}
use Rattle.table.specs.Rows.{BadRow, Leads}

-- a record: its text, and its fields
pub record Entry : Type 0 where
  pub raw : Bor (List ℕ)
  pub fields : List (Bor (List ℕ))

-- a text begins with these records, each with its end and of so many fields, and goes on with a rest
abbrev pub ReadsTo : ℕ → List ℕ → List Entry → List ℕ → Type 0
ReadsTo width text [] rest = text ≡ rest
ReadsTo width text (e ∷ es) rest = (0 < length text) × (length e.fields ≡ width) × ((behind : List ℕ) × Leads text e.raw.now e.fields behind × ReadsTo width behind es rest)

-- a text without the byte order mark at its start, should it have one there
abbrev pub Unmarked : List ℕ → List ℕ → Type 0
Unmarked text body = (text ≡ 239 ∷ 187 ∷ 191 ∷ body) ⊎ ((text ≡ body) × ((rest : List ℕ) → text ≢ 239 ∷ 187 ∷ 191 ∷ rest))

-- a text is a header and records of as many fields: the records with the header, and the fields of all, in order
pub record IsBody (body : List ℕ) (width : ℕ) (records fields : List (Bor (List ℕ))) : Type 0 where
  pub rows : List Entry
  pub header : 0 < length rows
  pub read : ReadsTo width body rows []
  pub records_are : records ≡ map (λ e. e.raw) rows
  pub fields_are : fields ≡ flat_map (λ e. e.fields) rows

-- the same of a text that may begin with a byte order mark
pub record IsTable (text : List ℕ) (width : ℕ) (records fields : List (Bor (List ℕ))) : Type 0 where
  pub body : List ℕ
  pub unmarked : Unmarked text body
  pub read : IsBody body width records fields

-- the records before a byte are sound, and the record that begins there has another number of fields than they
pub record Uneven (body : List ℕ) (at found expected : ℕ) : Type 0 where
  pub rows : List Entry
  pub rest : List ℕ
  pub header : 0 < length rows
  pub read : ReadsTo expected body rows rest
  pub place : at ≡ length body - length rest
  pub more : 0 < length rest
  pub next : Entry
  pub behind : List ℕ
  pub leads : Leads rest next.raw.now next.fields behind
  pub many : found ≡ length next.fields
  pub other : found ≢ expected

-- the records before are sound, and the next is broken at a byte
pub record Halted (body : List ℕ) (at : ℕ) (fault : Fault) : Type 0 where
  pub width : ℕ
  pub rows : List Entry
  pub rest : List ℕ
  pub read : ReadsTo width body rows rest
  pub more : 0 < length rest
  pub inside : ℕ
  pub place : at ≡ (length body - length rest) + inside
  pub bad : BadRow rest inside fault

-- the first fault of a text, and the byte at which it stands
abbrev pub FaultAt : List ℕ → ℕ → Fault → Type 0
FaultAt body at Empty = (body ≡ []) × (at ≡ 0)
FaultAt body at QuoteInside = Halted body at QuoteInside
FaultAt body at LoneReturn = Halted body at LoneReturn
FaultAt body at AfterQuote = Halted body at AfterQuote
FaultAt body at Unclosed = Halted body at Unclosed
FaultAt body at (Ragged found expected) = Uneven body at found expected

-- why reading stopped: for want of memory, or at the first fault
abbrev pub NotBody : List ℕ → Stop → Type 0
NotBody body Memory = Unit {0}
NotBody body (At at fault) = FaultAt body at fault

-- a byte that begins a character of UTF-8
abbrev pub starts : ℕ → Bool
starts b = nat_lt b 128 || nat_le 192 b

-- nothing, or lines with their line feeds
abbrev pub WholeLines : List ℕ → Type 0
WholeLines bs = (bs ≡ []) ⊎ ((front : List ℕ) × (bs ≡ front ++ (10 ∷ [])))

-- where a text ends: its line, and the column of the next character, both from 1
pub record Ends (text : List ℕ) (line column : ℕ) : Type 0 where
  pub lines : List ℕ
  pub here : List ℕ
  pub whole : text ≡ lines ++ here
  pub full : WholeLines lines
  pub last : LacksByte 10 here
  pub line_is : line ≡ 1 + count_by (λ b. b == 10) text
  pub column_is : column ≡ 1 + count_by starts here

-- a text is no table, for the first fault that it has, and the line and column of that
pub record NoTable (text : List ℕ) (line column : ℕ) (fault : Fault) : Type 0 where
  pub body : List ℕ
  pub unmarked : Unmarked text body
  pub at : ℕ
  pub found : FaultAt body at fault
  pub placed : Ends (take at body) line column

-- why a text is not read: for want of memory, or for its first fault
abbrev pub NotRead : List ℕ → Unread → Type 0
NotRead text refusals.Memory = Unit {0}
NotRead text (refusals.At line column fault) = NoTable text line column fault
