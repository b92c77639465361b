-- LAG and LEAD: the cell m rows off, or the m-th present one; the default where there is none.
use Rattle.std.specs.Prelude.{◌≡◌, ℕ, ◌+◌, ◌-◌, ◌<◌, Bool, true, false, cond, ◌&&◌, ◌||◌, List, length, ℤ, Some, None, Ok, Err, Option, Result, nat_le, nat_lt}
use Rattle.std.specs.Option.{unwrap_or}
use Rattle.std.specs.List.{slice_get}
use Rattle.column.specs.declared.fault.Fault.{Fault}
use Rattle.evaluator.specs.declared.utils.Argument.{Argument}
use Rattle.evaluator.specs.Arguments.{signed_integer, opposite}
use Rattle.evaluator.specs.Meaning.{Meaning}
use Rattle.present.specs.declared.held.Held.{Held}
use Rattle.lead_lag.specs.declared.WindowShift.{WindowShift}
use Rattle.lead_lag.specs.declared.offset.WindowShiftKind.{WindowShiftKind}
use Rattle.lead_lag.specs.declared.offset.Way.{Way}
use Rattle.lead_lag.specs.declared.offset.Way.TheVariants.{Own, Back, Ahead}
use Rattle.lead_lag.specs.Offset.{signed_offset, way_of}
use Rattle.present.specs.Present.{at, before, after}
use Rattle.present.specs.Counting.{start, Counting, Finding, held_mark}

-- a way looks at least one row off, or at the row itself
abbrev pub Proper : Way → Type 0
Proper Own = Unit {0}
Proper (Back m) = 0 < m
Proper (Ahead m) = 0 < m

-- respecting NULLs: the row m rows off, if it is one of the n rows
abbrev pub row_off : Way → ℕ → ℕ → Option ℕ
row_off Own n i = Some i
row_off (Back m) n i = cond (nat_le m i) (Some (i - m)) None
row_off (Ahead m) n i = cond (nat_lt (i + m) n) (Some (i + m)) None

-- ignoring NULLs: the m-th present row before or after row i, if there are so many; row i itself at offset 0
abbrev pub present_off : {V : Type 0} → Way → List (Option V) → ℕ → Option ℕ
present_off Own rows i = Some i
present_off (Back m) rows i = slice_get (before (at rows) i) (m - 1)
present_off (Ahead m) rows i = slice_get (after rows i) (m - 1)

-- the row that the answer of row i is taken from, if there is one
abbrev pub source_row : {V : Type 0} → Way → Bool → List (Option V) → ℕ → Option ℕ
source_row way false rows i = row_off way (length rows) i
source_row way true rows i = present_off way rows i

-- the cell of that row, or the default
abbrev pub taken : {V : Type 0} → (ℕ → Option V) → Option V → Option ℕ → Option V
taken cell default None = default
taken cell default (Some r) = cell r

-- the answer of row i
abbrev pub shifted : {V : Type 0} → Way → Bool → Option V → List (Option V) → ℕ → Option V
shifted way ignoring default rows i = taken (at rows) default (source_row way ignoring rows i)

-- looking ahead, the rows must reach m rows on, or hold m present rows after row i
abbrev pub reaches : {V : Type 0} → Way → Bool → List (Option V) → ℕ → Bool
reaches Own ignoring rows i = true
reaches (Back m) ignoring rows i = true
reaches (Ahead m) false rows i = nat_lt (i + m) (length rows)
reaches (Ahead m) true rows i = nat_le m (length (after rows i))

-- whether the rows settle row i, with or without the word that they are all
abbrev pub shift_settled : {V : Type 0} → Way → Bool → List (Option V) → Bool → ℕ → Bool
shift_settled way ignoring rows known i = nat_lt i (length rows) && (known || reaches way ignoring rows i)

-- the lowest row that row i and those after it may be answered from
abbrev pub mark_at : {V : Type 0} → Way → Bool → List (Option V) → ℕ → ℕ
mark_at Own ignoring rows i = i
mark_at (Ahead m) ignoring rows i = i
mark_at (Back m) false rows i = i - m
mark_at (Back m) true rows i = unwrap_or (slice_get (before (at rows) i) (m - 1)) 0

-- the keep mark, by what is held
abbrev pub mark_of : Way → Bool → Held → ℕ
mark_of Own ignoring h = h.next
mark_of (Ahead m) ignoring h = h.next
mark_of (Back m) false h = h.next - m
mark_of (Back m) true h = held_mark m h

-- with NULLs ignored: looking back, the present rows before row i counted up to m, and the oldest counted; looking ahead, the m-th present row from row i on, if one was sought
abbrev pub Counts : {V : Type 0} → Way → Bool → Held → List (Option V) → ℕ → Type 0
Counts Own ignoring h rows i = Unit {0}
Counts (Back m) false h rows i = Unit {0}
Counts (Back m) true h rows i = Counting m h rows i
Counts (Ahead m) false h rows i = Unit {0}
Counts (Ahead m) true h rows i = Finding m h rows i

-- what is held at row i
pub record Holding {V : Type 0} (way : Way) (ignoring : Bool) (h : Held) (rows : List (Option V)) (i : ℕ) : Type 0 where
  pub next_row : h.next ≡ i
  pub mark : mark_of way ignoring h ≡ mark_at way ignoring rows i
  pub counts : Counts way ignoring h rows i

-- the meaning of a shift
abbrev pub shift_meaning : {V : Type 0} → WindowShift V → Meaning V (Option V)
shift_meaning e = record {
  answer = λ p i. shifted (way_of e.shift_offset) e.ignore_nulls e.default_value p.rows i;
  stands = λ p i. Holding (way_of e.shift_offset) e.ignore_nulls e.held p.rows i;
  settled = λ rows frames known i. shift_settled (way_of e.shift_offset) e.ignore_nulls rows known i;
  keep = mark_of (way_of e.shift_offset) e.ignore_nulls e.held;
}

-- the same shift with another offset, holding nothing
abbrev pub renewed_with : {V : Type 0} → ℤ → WindowShift V → WindowShift V
renewed_with z e = record { shift_offset = z; ignore_nulls = e.ignore_nulls; default_value = e.default_value; held = start }

-- the same shift, holding nothing
abbrev pub shift_renewed : {V : Type 0} → WindowShift V → WindowShift V
shift_renewed e = renewed_with e.shift_offset e

-- the same shift from the other end: the opposite offset
abbrev pub shift_mirrored : {V : Type 0} → WindowShift V → WindowShift V
shift_mirrored e = renewed_with (opposite e.shift_offset) e

-- a new shift, or the refusal of its argument
abbrev pub made_by : {V : Type 0} → WindowShiftKind → Bool → Bool → Option V → Result (Option ℤ) Fault → Result (WindowShift V) Fault
made_by kind reversed ignoring default (Ok value) = Ok (record { shift_offset = signed_offset kind value reversed; ignore_nulls = ignoring; default_value = default; held = start })
made_by kind reversed ignoring default (Err f) = Err f

-- the same, by the argument
abbrev pub making : {V : Type 0} → WindowShiftKind → Argument → Bool → Bool → Option V → Result (WindowShift V) Fault
making kind argument reversed ignoring default = made_by kind reversed ignoring default (signed_integer argument)
