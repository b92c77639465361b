-- FIRST, LAST and NTH: the row of a frame that is counted to.
use Rattle.std.specs.Prelude.{ℕ, zero, suc, ◌-◌, Bool, true, false, List, reverse, ℤ, pos, negsuc, Some, None, Option}
use Rattle.std.specs.List.{slice_get, range_with_len}
use Rattle.partition.specs.Table.{Frame}
use Rattle.present.specs.Present.{ahead}
use Rattle.nth_value.specs.declared.kind.NthValueKind.{NthValueKind}
use Rattle.nth_value.specs.declared.kind.NthValueKind.TheVariants.{First, Last, Nth}
use Rattle.nth_value.specs.declared.kind.Pick.{Pick}
use Rattle.nth_value.specs.declared.kind.Pick.TheVariants.{Nothing, FromStart, FromEnd}

-- the rows that a frame takes, in order: only the present ones if NULLs are ignored
abbrev pub frame_rows : {V : Type 0} → Bool → (ℕ → Option V) → Frame → List ℕ
frame_rows false cell f = range_with_len f.0 (f.1 - f.0)
frame_rows true cell f = ahead cell f.0 (f.1 - f.0)

-- a positive n counts from the start, a negative one from the end, and 0 counts to no row
abbrev pub pick_nth : ℤ → Pick
pick_nth (pos zero) = Nothing
pick_nth (pos (suc n)) = FromStart (suc n)
pick_nth (negsuc n) = FromEnd (suc n)

-- FIRST counts 1 from the start, LAST 1 from the end
abbrev pub pick_of : NthValueKind → Pick
pick_of First = FromStart 1
pick_of Last = FromEnd 1
pick_of (Nth n) = pick_nth n

-- the row counted to, if the frame has so many
abbrev pub picked : Pick → List ℕ → Option ℕ
picked Nothing rows = None
picked (FromStart m) rows = slice_get rows (m - 1)
picked (FromEnd m) rows = slice_get (reverse rows) (m - 1)

-- the cell of that row, NULL where there is none
abbrev pub cell_of : {V : Type 0} → (ℕ → Option V) → Option ℕ → Option V
cell_of cell None = None
cell_of cell (Some r) = cell r

-- the answer over a frame
abbrev pub value_in : {V : Type 0} → Pick → Bool → (ℕ → Option V) → Frame → Option V
value_in pick ignoring cell f = cell_of cell (picked pick (frame_rows ignoring cell f))
