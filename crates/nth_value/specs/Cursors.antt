-- What is known between one frame of a partition and the next.
use Rattle.std.specs.Prelude.{◌≡◌, ℕ, ◌-◌, ◌<◌, true, false, List, Option}
use Rattle.std.specs.List.{slice_get}
use Rattle.column.specs.declared.column.Window.{Window}
use Rattle.column.specs.Cells.{view}
use Rattle.partition.specs.Table.{Frame}
use Rattle.present.specs.Present.{at, ahead}
use Rattle.present.specs.Counting.{Counting}
use Rattle.nth_value.specs.declared.kind.Pick.{Pick}
use Rattle.nth_value.specs.declared.kind.Pick.TheVariants.{Nothing, FromStart, FromEnd}
use Rattle.nth_value.specs.declared.cursor.Reached.{Reached}
use Rattle.nth_value.specs.declared.cursor.Passed.{Passed}
use Rattle.nth_value.specs.declared.cursor.Cursor.{Cursor}
use Rattle.nth_value.specs.declared.cursor.Cursor.TheVariants.{Ends, Ahead, Behind}
use Rattle.nth_value.specs.Frames.{picked, frame_rows}

-- a count is of at least one row
abbrev pub Proper : Pick → Type 0
Proper Nothing = Unit {0}
Proper (FromStart m) = 0 < m
Proper (FromEnd m) = 0 < m

-- the window shows all rows
abbrev pub ShowsAll : {V : Type 0} → Window V → List (Option V) → Type 0
ShowsAll w rows = (k : ℕ) → view w k ≡ at rows k

-- the row found is the m-th present one from `start` on, of n rows
abbrev pub Reaches : {V : Type 0} → (ℕ → Option V) → ℕ → Reached → Type 0
Reaches cell n a = a.found ≡ slice_get (ahead cell a.start (n - a.start)) (a.m - 1)

-- the present rows below `held.next` are counted
abbrev pub Passes : {V : Type 0} → List (Option V) → Passed → Type 0
Passes rows b = (0 < b.m) × Counting b.m b.held rows b.held.next

-- what a cursor knows of the rows, looking at n of them
abbrev pub Knows : {V : Type 0} → ℕ → List (Option V) → Cursor → Type 0
Knows n rows (Ends pick) = Unit {0}
Knows n rows (Ahead a) = Reaches (at rows) n a
Knows n rows (Behind b) = Passes rows b

-- the row that a cursor finds for a frame
abbrev pub finds : {V : Type 0} → Cursor → List (Option V) → Frame → Option ℕ
finds (Ends pick) rows f = picked pick (frame_rows false (at rows) f)
finds (Ahead a) rows f = picked (FromStart a.m) (frame_rows true (at rows) f)
finds (Behind b) rows f = picked (FromEnd b.m) (frame_rows true (at rows) f)
