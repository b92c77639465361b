-- What the parts of a row call do, over the cells that a window shows.
use Rattle.std.specs.Prelude.{ℕ, ◌+◌, Bool, true, false, not, ◌&&◌, is_some, Some, Option}
use Rattle.present.specs.declared.held.Held.{Held}
use Rattle.lead_lag.specs.declared.offset.Way.{Way}
use Rattle.lead_lag.specs.declared.offset.Way.TheVariants.{Own, Back, Ahead}
use Rattle.column.specs.declared.column.Window.{Window}
use Rattle.column.specs.Cells.{view}
use Rattle.partition.specs.Table.{Frame}
use Rattle.lead_lag.specs.declared.WindowShift.{WindowShift}
use Rattle.lead_lag.specs.Offset.{way_of}
use Rattle.present.specs.Counting.{oldest_source, passed, counted_row, source_ahead, found_row}
use Rattle.run.specs.Shown.{end_of}
use Rattle.lead_lag.specs.Shift.{row_off}

-- ignoring NULLs, the source row of row i by what is held and the rows below a
abbrev pub present_by : {V : Type 0} → Way → Held → (ℕ → Option V) → ℕ → ℕ → Option ℕ
present_by Own h cell i a = Some i
present_by (Back m) h cell i a = oldest_source m h
present_by (Ahead m) h cell i a = source_ahead m h cell i a

-- the source row of row i, by what is held and the rows below a
abbrev pub source_by : {V : Type 0} → Way → Bool → Held → (ℕ → Option V) → ℕ → ℕ → Option ℕ
source_by way false h cell i a = row_off way a i
source_by way true h cell i a = present_by way h cell i a

-- looking ahead, a row without a source waits for the total
abbrev pub waits : Way → Option ℕ → Bool → Bool
waits Own source known = false
waits (Back m) source known = false
waits (Ahead m) source known = not known && not (is_some source)

-- what is held at row n, after row i with this source row
abbrev pub held_after : {V : Type 0} → Way → Bool → Held → (ℕ → Option V) → ℕ → ℕ → Option ℕ → Held
held_after Own ignoring h cell i n s = passed h n
held_after (Back m) false h cell i n s = passed h n
held_after (Back m) true h cell i n s = counted_row m h cell i n
held_after (Ahead m) false h cell i n s = passed h n
held_after (Ahead m) true h cell i n s = found_row h n s

-- what an accepted row call leaves of a shift
abbrev pub shift_stepped : {V : Type 0} → WindowShift V → ℕ → Window V → Frame → WindowShift V
shift_stepped e i w f = record { shift_offset = e.shift_offset; ignore_nulls = e.ignore_nulls; default_value = e.default_value; held = held_after (way_of e.shift_offset) e.ignore_nulls e.held (view w) i (i + 1) (source_by (way_of e.shift_offset) e.ignore_nulls e.held (view w) i (end_of w)) }

-- settling leaves a shift as it was
abbrev pub shift_settling : {V : Type 0} → WindowShift V → ℕ → Frame → WindowShift V
shift_settling e i f = e
