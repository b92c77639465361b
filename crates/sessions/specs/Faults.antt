-- What is wrong with a text that is refused. Assumes nothing.
use Rattle.std.specs.Prelude.{◌≡◌, ℕ, ◌+◌, ◌<◌, ◌⊎◌, List, [], ◌∷◌, map, length, codes, ◌≢◌, slice_index, slice_index_or}
use Rattle.std.specs.Borrow.{Bor}
use Rattle.std.specs.List.{join_with_byte}
use Rattle.std.specs.Str.Iter.{LacksByte}
use Rattle.sessions.specs.declared.columns.Columns.{Columns}
use Rattle.sessions.specs.declared.record.Record.{Record}
use Rattle.sessions.specs.declared.problem.Problem.{Problem}
use Rattle.sessions.specs.declared.problem.Problem.TheVariants.{Empty, NoColumn, ColumnTwice, Quote, Ragged, NoSession, NoNumber, TooManyRecords}
use Rattle.sessions.specs.declared.problem.Refusal.{Refusal}
use Rattle.sessions.specs.declared.problem.Refusal.TheVariants as refusals
use Rattle.sessions.specs.Header.{Absent, Column}
use Rattle.sessions.specs.Reading.{Whole, Apart, Stripped, Lines, FromHeader, FromLines, IsTable}
use Rattle.sessions.specs.Sessions.{FirstFull, session_at}

-- the bytes have c among them
abbrev pub Holds : ℕ → List ℕ → Type 0
Holds c bs = (k : ℕ) × (k < length bs) × (slice_index bs k ≡ c)

-- two columns have the name
pub record Twice (names : List (Bor (List ℕ))) (name : List ℕ) : Type 0 where
  pub one : ℕ
  pub other : ℕ
  pub apart : one < other
  pub within : other < length names
  pub first : (d : Bor (List ℕ)) → (slice_index_or names one d).now ≡ name
  pub second : (d : Bor (List ℕ)) → (slice_index_or names other d).now ≡ name

-- a name that no column has, or two
abbrev pub NameFault : List (Bor (List ℕ)) → List ℕ → Problem → Type 0
NameFault names name Empty = ⊥
NameFault names name (NoColumn n) = (n.now ≡ name) × Absent names name (length names)
NameFault names name (ColumnTwice n) = (n.now ≡ name) × Twice names name
NameFault names name Quote = ⊥
NameFault names name (Ragged found expected) = ⊥
NameFault names name NoSession = ⊥
NameFault names name (NoNumber column text) = ⊥
NameFault names name (TooManyRecords s) = ⊥

-- one column has the name
abbrev pub Unique : List (Bor (List ℕ)) → List ℕ → Type 0
Unique names name = (k : ℕ) × Column names name (length names) k

-- of the columns that are read, in this order, the first that is at fault
abbrev pub NamesFault : List (Bor (List ℕ)) → Problem → Type 0
NamesFault names p = NameFault names (codes "session") p
    ⊎ ((Unique names (codes "session") × NameFault names (codes "instant") p)
    ⊎ (Unique names (codes "session") × Unique names (codes "instant") × NameFault names (codes "renewed_expiry") p))

-- the text in this column is no whole number
abbrev pub IsNoNumber : List ℕ → List ℕ → Problem → Type 0
IsNoNumber column text Empty = ⊥
IsNoNumber column text (NoColumn n) = ⊥
IsNoNumber column text (ColumnTwice n) = ⊥
IsNoNumber column text Quote = ⊥
IsNoNumber column text (Ragged found expected) = ⊥
IsNoNumber column text NoSession = ⊥
IsNoNumber column text (NoNumber c t) = (c.now ≡ column) × (t.now ≡ text) × (Whole text → ⊥)
IsNoNumber column text (TooManyRecords s) = ⊥

-- a line without a quote, and with a field for each column
abbrev pub Even : Columns → List ℕ → List (Bor (List ℕ)) → Type 0
Even c line fs = LacksByte 34 line × (length fs ≡ c.count)

-- such a line that has a session
abbrev pub Named : Columns → List ℕ → List (Bor (List ℕ)) → Type 0
Named c line fs = Even c line fs × ((d : Bor (List ℕ)) → 0 < length (slice_index_or fs c.session d).now)

-- the text of the instant
abbrev pub InstantIs : Columns → List (Bor (List ℕ)) → List ℕ → Type 0
InstantIs c fs text = (d : Bor (List ℕ)) → text ≡ (slice_index_or fs c.instant d).now

-- the text of the expiry, where one is there and the instant is whole
abbrev pub ExpiryIs : Columns → List (Bor (List ℕ)) → List ℕ → Type 0
ExpiryIs c fs text = ((d : Bor (List ℕ)) → Whole (slice_index_or fs c.instant d).now) × ((d : Bor (List ℕ)) → text ≡ (slice_index_or fs c.expiry d).now) × (0 < length text)

-- the first field that is no whole number where one is wanted
abbrev pub NumberFault : Columns → List (Bor (List ℕ)) → List ℕ → List ℕ → Type 0
NumberFault c fs column text = ((column ≡ codes "instant") × InstantIs c fs text) ⊎ ((column ≡ codes "renewed_expiry") × ExpiryIs c fs text)

-- what is wrong with a line that is no record, by the first check, in this order, that it fails
abbrev pub LineFault : Columns → List ℕ → List (Bor (List ℕ)) → Problem → Type 0
LineFault c line fs Empty = ⊥
LineFault c line fs (NoColumn n) = ⊥
LineFault c line fs (ColumnTwice n) = ⊥
LineFault c line fs Quote = Holds 34 line
LineFault c line fs (Ragged found expected) = LacksByte 34 line × (found ≡ length fs) × (expected ≡ c.count) × (found ≢ expected)
LineFault c line fs NoSession = Even c line fs × ((d : Bor (List ℕ)) → length (slice_index_or fs c.session d).now ≡ 0)
LineFault c line fs (NoNumber column text) = Named c line fs × (Whole text.now → ⊥) × NumberFault c fs column.now text.now
LineFault c line fs (TooManyRecords s) = ⊥

-- a header's line without a quote, whose columns are at fault
pub record BadNames (line : List ℕ) (p : Problem) : Type 0 where
  pub unquoted : LacksByte 34 line
  pub names : List (Bor (List ℕ))
  pub cut : line ≡ join_with_byte 44 (map (λ f. f.now) names)
  pub apart : Apart 44 names
  pub fault : NamesFault names p

-- what is wrong with a header's line
abbrev pub HeaderFault : List ℕ → Problem → Type 0
HeaderFault line p = ((p ≡ Quote) × Holds 34 line) ⊎ BadNames line p

-- a header that is refused, by memory or at line 1
abbrev pub HeaderRefused : List ℕ → Refusal → Type 0
HeaderRefused line refusals.Memory = Unit {0}
HeaderRefused line (refusals.At n p) = (n ≡ 1) × HeaderFault line p

-- a line, perhaps with a CR at its end, that is no record
pub record BadFields (c : Columns) (whole : List ℕ) (p : Problem) : Type 0 where
  pub line : List ℕ
  pub stripped : Stripped 13 whole line
  pub fields : List (Bor (List ℕ))
  pub cut : line ≡ join_with_byte 44 (map (λ f. f.now) fields)
  pub apart : Apart 44 fields
  pub some : 0 < length fields
  pub fault : LineFault c line fields p

-- a line n that is refused, by memory or for what is wrong with it
abbrev pub LineRefused : Columns → List ℕ → ℕ → Refusal → Type 0
LineRefused c whole n refusals.Memory = Unit {0}
LineRefused c whole n (refusals.At m p) = (m ≡ n) × BadFields c whole p

-- a text that is not empty, whose first line is no header
pub record BadHeader (text : List ℕ) (p : Problem) : Type 0 where
  pub some : 0 < length text
  pub top : Bor (List ℕ)
  pub below : List (Bor (List ℕ))
  pub lines_are : Lines text (top ∷ below)
  pub line : List ℕ
  pub first : Stripped 13 top.now line
  pub fault : HeaderFault line p

-- line n of the text is the first of those below the header that is no record
pub record BadRow (c : Columns) (below : List (Bor (List ℕ))) (n : ℕ) (p : Problem) : Type 0 where
  pub rows : List Record
  pub rows_read : FromLines c below rows
  pub place : n ≡ length rows + 2
  pub within : length rows < length below
  pub fault : (e : Bor (List ℕ)) → BadFields c (slice_index_or below (length rows) e).now p

-- lines below a header that are refused, by memory or for the first that is no record
abbrev pub LinesRefused : Columns → List (Bor (List ℕ)) → Refusal → Type 0
LinesRefused c below refusals.Memory = Unit {0}
LinesRefused c below (refusals.At n p) = BadRow c below n p

-- a text whose line n is the first that is no record
pub record BadLine (text : List ℕ) (n : ℕ) (p : Problem) : Type 0 where
  pub top : Bor (List ℕ)
  pub below : List (Bor (List ℕ))
  pub lines_are : Lines text (top ∷ below)
  pub columns : Columns
  pub header : List ℕ
  pub first : Stripped 13 top.now header
  pub header_read : FromHeader header columns
  pub row : BadRow columns below n p

-- a text that is refused: for want of memory, or at a line for what is wrong with it
abbrev pub Unread : List ℕ → Refusal → Type 0
Unread text refusals.Memory = Unit {0}
Unread text (refusals.At n p) = ((text ≡ []) × (n ≡ 1) × (p ≡ Empty)) ⊎ (((n ≡ 1) × BadHeader text p) ⊎ BadLine text n p)

-- too many records of the session of this name
abbrev pub OfSession : List ℕ → Problem → Type 0
OfSession name Empty = ⊥
OfSession name (NoColumn n) = ⊥
OfSession name (ColumnTwice n) = ⊥
OfSession name Quote = ⊥
OfSession name (Ragged found expected) = ⊥
OfSession name NoSession = ⊥
OfSession name (NoNumber column text) = ⊥
OfSession name (TooManyRecords s) = s.now ≡ name

-- the refusal at record k, whose session is full; the header is line 1
abbrev pub FullAt : List Record → ℕ → Refusal → Type 0
FullAt rows k refusals.Memory = ⊥
FullAt rows k (refusals.At n p) = (n ≡ k + 2) × OfSession (session_at rows k) p

-- a text with a session that has more records than a partition may have, and the first record that is too many
pub record TooFull (text : List ℕ) (r : Refusal) : Type 0 where
  pub header : List ℕ
  pub rows : List Record
  pub read : IsTable text header rows
  pub place : ℕ
  pub first : FirstFull rows place
  pub says : FullAt rows place r

-- a text without a report
abbrev pub Unreported : List ℕ → Refusal → Type 0
Unreported text r = Unread text r ⊎ TooFull text r
