-- What a line and its fields say. Assumes nothing.
use Rattle.std.specs.Prelude.{◌≡◌, ℕ, ◌<◌, ◌⊎◌, List, [], ◌∷◌, ◌++◌, map, length, get_or, Some, None, FitsSigned, ◌≢◌, slice_index_or}
use Rattle.std.specs.Borrow.{Bor}
use Rattle.std.specs.Int.{w64}
use Rattle.std.specs.Str.Iter.{LacksByte}
use Rattle.std.specs.List.{join_with_byte}
use Rattle.std.specs.Str.Parse.{IsNumeral, without_leading_sign, signed_digits_value}
use Rattle.sessions.specs.declared.columns.Columns.{Columns}
use Rattle.sessions.specs.declared.record.Record.{Record}
use Rattle.sessions.specs.Header.{Header}
use Rattle.sessions.specs.Sessions.{Cell}

-- no piece has the byte c
abbrev pub Apart : ℕ → List (Bor (List ℕ)) → Type 0
Apart c rs = (k : ℕ) (d : Bor (List ℕ)) → k < length rs → LacksByte c (get_or rs k d).now

-- digits, perhaps after a sign, whose value fits 64 bits
abbrev pub Whole : List ℕ → Type 0
Whole bs = IsNumeral 10 (without_leading_sign bs) × FitsSigned w64 (signed_digits_value 10 bs)

-- an empty field is NULL, and any other a whole number
abbrev pub Reads : List ℕ → Cell → Type 0
Reads bs None = length bs ≡ 0
Reads bs (Some t) = Whole bs × (t.0 ≡ signed_digits_value 10 bs)

-- the record that a line's fields say
pub record IsRecord (c : Columns) (line : List ℕ) (fs : List (Bor (List ℕ))) (r : Record) : Type 0 where
  pub unquoted : LacksByte 34 line
  pub full : length fs ≡ c.count
  pub line_is : r.line.now ≡ line
  pub named : 0 < length r.session.now
  pub session_is : (d : Bor (List ℕ)) → r.session.now ≡ (get_or fs c.session d).now
  pub instant_is : (d : Bor (List ℕ)) → Whole (get_or fs c.instant d).now
  pub expiry_is : (d : Bor (List ℕ)) → Reads (get_or fs c.expiry d).now r.expiry

-- the columns that a header's line names
pub record FromHeader (line : List ℕ) (c : Columns) : Type 0 where
  pub unquoted : LacksByte 34 line
  pub names : List (Bor (List ℕ))
  pub cut : line ≡ join_with_byte 44 (map (λ f. f.now) names)
  pub apart : Apart 44 names
  pub says : Header names c

-- a text without the byte c at its end, should it have one there
abbrev pub Stripped : ℕ → List ℕ → List ℕ → Type 0
Stripped c whole part = (whole ≡ part ++ (c ∷ [])) ⊎ ((whole ≡ part) × ((front : List ℕ) → whole ≢ front ++ (c ∷ [])))

-- the lines of a text: cut at each LF, and one LF at its end is no line of its own
pub record Lines (text : List ℕ) (ls : List (Bor (List ℕ))) : Type 0 where
  pub body : List ℕ
  pub stripped : Stripped 10 text body
  pub cut : body ≡ join_with_byte 10 (map (λ l. l.now) ls)
  pub apart : Apart 10 ls

-- a record says what the fields of its line say; a CR at the line's end is no part of it
pub record FromLine (c : Columns) (whole : List ℕ) (r : Record) : Type 0 where
  pub line : List ℕ
  pub stripped : Stripped 13 whole line
  pub fields : List (Bor (List ℕ))
  pub cut : line ≡ join_with_byte 44 (map (λ f. f.now) fields)
  pub apart : Apart 44 fields
  pub says : IsRecord c line fields r

-- record k is that of line k of those below the header
abbrev pub FromLines : Columns → List (Bor (List ℕ)) → List Record → Type 0
FromLines c ls rows = (k : ℕ) (d : Record) (e : Bor (List ℕ)) → k < length rows → FromLine c (slice_index_or ls k e).now (slice_index_or rows k d)

-- the header and the records of a text: its first line, and one record for each line below it, in order
pub record IsTable (text header : List ℕ) (rows : List Record) : Type 0 where
  pub top : Bor (List ℕ)
  pub below : List (Bor (List ℕ))
  pub lines_are : Lines text (top ∷ below)
  pub columns : Columns
  pub first : Stripped 13 top.now header
  pub header_read : FromHeader header columns
  pub count : length rows ≡ length below
  pub rows_read : FromLines columns below rows
