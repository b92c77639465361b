-- Looking past m present rows: back by a count up to m and the row of the oldest counted, ahead by the row found before.
use Rattle.std.specs.Prelude.{◌≡◌, ℕ, ◌+◌, ◌-◌, min, max, cond, List, [], length, is_some, Some, None, Option, nat_lt}
use Rattle.std.specs.Option.{unwrap_or}
use Rattle.std.specs.List.{slice_get}
use Rattle.column.specs.Windows.{greatest_row}
use Rattle.present.specs.declared.held.Held.{Held}
use Rattle.present.specs.declared.held.Counted.{Counted}
use Rattle.present.specs.Present.{at, before, ahead}

-- nothing held yet
abbrev pub start : Held
start = record { next = 0; counted = None; found = None }

-- of these rows, nearest first, so many are counted as there are up to m, and the oldest of those is held
abbrev pub CountedOf : ℕ → Option Counted → List ℕ → Type 0
CountedOf m None xs = xs ≡ []
CountedOf m (Some c) xs = (c.count ≡ min m (length xs)) × (slice_get xs (c.count - 1) ≡ Some c.oldest)

-- the present rows before row i are counted
abbrev pub Counting : {V : Type 0} → ℕ → Held → List (Option V) → ℕ → Type 0
Counting m h rows i = CountedOf m h.counted (before (at rows) i)

-- the oldest, once m are counted
abbrev pub oldest_of : ℕ → Option Counted → Option ℕ
oldest_of m None = None
oldest_of m (Some c) = cond (nat_lt c.count m) None (Some c.oldest)

-- the m-th present row back, by what is held
abbrev pub oldest_source : ℕ → Held → Option ℕ
oldest_source m h = oldest_of m h.counted

-- the lowest row that may still be read: the oldest once m are counted, until then row 0
abbrev pub held_mark : ℕ → Held → ℕ
held_mark m h = unwrap_or (oldest_source m h) 0

-- the first present row after row o, before row n
abbrev pub next_after : {V : Type 0} → (ℕ → Option V) → ℕ → ℕ → Option ℕ
next_after cell o n = slice_get (ahead cell (o + 1) (n - (o + 1))) 0

-- the same; row o if there is none
abbrev pub next_present : {V : Type 0} → (ℕ → Option V) → ℕ → ℕ → ℕ
next_present cell o n = unwrap_or (next_after cell o n) o

-- a row found ahead of row i, one row on: past a present row the next present one, before row n
abbrev pub moved_on : {V : Type 0} → (ℕ → Option V) → Option ℕ → ℕ → ℕ → Option ℕ
moved_on cell None i n = None
moved_on cell (Some o) i n = cond (is_some (cell i)) (next_after cell o n) (Some o)

-- row i counted, before row n: as one more, or in place of the oldest
abbrev pub counted : {V : Type 0} → ℕ → Option Counted → (ℕ → Option V) → ℕ → ℕ → Counted
counted m None cell i n = record { count = 1; oldest = i }
counted m (Some c) cell i n = cond (nat_lt c.count m)
    (record { count = c.count + 1; oldest = c.oldest })
    (record { count = c.count; oldest = next_present cell c.oldest n })

-- the rows before row n passed over
abbrev pub passed : Held → ℕ → Held
passed h n = record { next = max h.next n; counted = h.counted; found = h.found }

-- what is held at row n, after row i: a present row is counted
abbrev pub counted_row : {V : Type 0} → ℕ → Held → (ℕ → Option V) → ℕ → ℕ → Held
counted_row m h cell i n = record {
  next = max h.next n;
  counted = cond (is_some (cell i)) (Some (counted m h.counted cell i n)) h.counted;
  found = h.found;
}

-- a row found, if it lies before row e
abbrev pub up_to : ℕ → Option ℕ → Option ℕ
up_to e None = None
up_to e (Some r) = cond (nat_lt r e) (Some r) None

-- the m-th present row after row i, before row a: sought from row i on, or from what was found for the row before
abbrev pub found_ahead : {V : Type 0} → ℕ → Option (Option ℕ) → (ℕ → Option V) → ℕ → ℕ → Option ℕ
found_ahead m None cell i a = slice_get (ahead cell (i + 1) (a - (i + 1))) (m - 1)
found_ahead m (Some s) cell i a = up_to a (moved_on cell s i a)

-- the same, by what is held
abbrev pub source_ahead : {V : Type 0} → ℕ → Held → (ℕ → Option V) → ℕ → ℕ → Option ℕ
source_ahead m h cell i a = found_ahead m h.found cell i a

-- what was found for the row before, if something was sought, is this row
abbrev pub FoundIs : Option (Option ℕ) → Option ℕ → Type 0
FoundIs None x = Unit {0}
FoundIs (Some s) x = s ≡ x

-- what was found for the row before is the m-th present row of those from row i on
abbrev pub Finding : {V : Type 0} → ℕ → Held → List (Option V) → ℕ → Type 0
Finding m h rows i = FoundIs h.found (slice_get (ahead (at rows) i (length rows - i)) (m - 1))

-- what is held at row n, after a row for which this source was found ahead
abbrev pub found_row : Held → ℕ → Option ℕ → Held
found_row h n s = record { next = max h.next n; counted = h.counted; found = Some s }

-- the row after row i, as far as there is a number for it
abbrev pub row_after : ℕ → ℕ
row_after i = min (i + 1) greatest_row
