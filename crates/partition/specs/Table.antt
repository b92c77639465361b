-- Which check refuses a call on a whole partition, and with which place: the first that fails, from the top.
use Rattle.std.specs.Prelude.{◌≡◌, ℕ, zero, suc, ◌<◌, ◌≤◌, min, max, Bool, true, false, cond, not, ◌&&◌, ◌||◌, List, [], ◌∷◌, ◌++◌, length, get_or, drop, Some, None, Option, ◌==◌, nat_lt, slice_index_or}
use Rattle.column.specs.declared.fault.Fault.{Fault}
use Rattle.column.specs.declared.fault.Fault.TheVariants.{BadFrames, BadGroups, ShortGroups, Absent, ShortOutput}
use Rattle.column.specs.declared.column.Column.{Column}
use Rattle.partition.specs.declared.whole.WholePartition.{WholePartition}
use Rattle.column.specs.Cells.{cells, column_cells}
use Rattle.column.specs.Refusal.{row_limit, or_else, column_refusal}
use Rattle.partition.specs.Peers.{Group, peers}

-- a frame's start and end, the end not included
abbrev pub Frame : Type 0
Frame = ℕ × ℕ

-- what a call on a whole partition is handed; an empty list of frames or of groups is absent
pub record Input (V : Type 0) : Type 0 where
  pub values : List V
  pub marks : List Bool
  pub frames : List Frame
  pub groups : List Group

-- what the lists of a partition hold
abbrev pub input : {V : Type 0} → WholePartition V → Input V
input r = record { values = r.column.values.now; marks = r.column.marks.now; frames = r.frames.now; groups = r.groups.now }

-- the number of rows
abbrev pub row_count : {V : Type 0} → Input V → ℕ
row_count x = length x.values

-- an empty list is absent
abbrev pub absent : {X : Type 0} → List X → Bool
absent [] = true
absent (x ∷ xs) = false

-- the lowest number below n that is at fault, else n
unfoldable pub lowest : (ℕ → Bool) → ℕ → ℕ
lowest fault zero = 0
lowest fault (suc n) = cond (fault 0) 0 (suc (lowest (λ k. fault (suc k)) n))

-- of two lists' lengths: the lowest place at fault below both, else the shorter length where they differ
abbrev pub fault_at : (ℕ → Bool) → ℕ → ℕ → Option ℕ
fault_at fault m n = cond (nat_lt (lowest fault (min m n)) (max m n)) (Some (lowest fault (min m n))) None

-- whether a frame does not fit n rows
abbrev pub unfit : ℕ → Frame → Bool
unfit n f = nat_lt f.1 f.0 || nat_lt n f.1

-- the place at which a list of frames is not one a row, each fit
abbrev pub frames_fault : ℕ → List Frame → Option ℕ
frames_fault n fs = fault_at (λ i. unfit n (slice_index_or fs i (0, 0))) (length fs) n

-- two groups that are not equal
abbrev pub differ : Group → Group → Bool
differ g h = not (g.0 == h.0 && g.1 == h.1)

-- the place at which a list of groups is not another
abbrev pub groups_fault : List Group → List Group → Option ℕ
groups_fault gs hs = fault_at (λ k. differ (slice_index_or gs k (0, 0)) (slice_index_or hs k (0, 0))) (length gs) (length hs)

-- a fault that stands only if the list is there
abbrev pub unless_absent : {X : Type 0} → List X → (ℕ → Fault) → Option ℕ → Option Fault
unless_absent [] f place = None
unless_absent (x ∷ xs) f None = None
unless_absent (x ∷ xs) f (Some k) = Some (f k)

-- 7
abbrev pub frames_refusal : ℕ → List Frame → Option Fault
frames_refusal n fs = unless_absent fs BadFrames (frames_fault n fs)

-- 8, over the groups handed in and those of the column
abbrev pub groups_refusal : List Group → List Group → Option Fault
groups_refusal gs hs = unless_absent gs BadGroups (groups_fault gs hs)

-- 10
abbrev pub absent_refusal : ℕ → Bool → Bool → Option Fault
absent_refusal n frames groups = cond (nat_lt 0 n && (frames || groups)) (Some (Absent 0)) None

-- 11
abbrev pub output_refusal : ℕ → ℕ → Option Fault
output_refusal n slots = cond (nat_lt slots n) (Some (ShortOutput slots)) None

-- the whole table, over the kind's sameness, whether frames and groups are wanted, what is handed in, and the number of output slots
abbrev pub whole_refusal : {V : Type 0} → (V → V → Bool) → Bool → Bool → Input V → ℕ → Option Fault
whole_refusal same wants_frames wants_groups x slots =
    or_else (column_refusal (length x.values) (length x.marks))
    (or_else (frames_refusal (row_count x) x.frames)
    (or_else (groups_refusal x.groups (peers same (cells x.values x.marks)))
    (or_else (absent_refusal (row_count x) (wants_frames && absent x.frames) (wants_groups && absent x.groups))
    (output_refusal (row_count x) slots))))

-- what an accepted call has
pub record Accepted {V : Type 0} (same : V → V → Bool) (wants_frames wants_groups : Bool) (x : Input V) (slots : ℕ) : Type 0 where
  pub lengths : length x.values ≡ length x.marks
  pub limited : row_count x ≤ row_limit
  pub room : row_count x ≤ slots
  -- a frame for each row, if they are wanted, and each fit
  pub framed : wants_frames ≡ true → length x.frames ≡ row_count x
  pub fit : (i : ℕ) → i < length x.frames → ((get_or x.frames i (0, 0)).0 ≤ (get_or x.frames i (0, 0)).1) × ((get_or x.frames i (0, 0)).1 ≤ row_count x)
  -- the column's groups, if they are wanted
  pub grouped : wants_groups ≡ true → x.groups ≡ peers same (cells x.values x.marks)

-- the peer groups of a column
abbrev pub column_groups : {V : Type 0} → (V → V → Bool) → Column V → List Group
column_groups same c = peers same (column_cells c)

-- 9, over the number of groups and of places for them
abbrev pub places_refusal : ℕ → ℕ → Option Fault
places_refusal count places = cond (nat_lt places count) (Some (ShortGroups places)) None

-- 5, 6 and 9 of a list with so many places
abbrev pub grouping_refusal : {V : Type 0} → (V → V → Bool) → Column V → ℕ → Option Fault
grouping_refusal same c places =
    or_else (column_refusal (length c.values.now) (length c.marks.now))
    (places_refusal (length (column_groups same c)) places)

-- a list after groups were written to its front: what lies beyond them stays
abbrev pub at_front : List Group → List Group → List Group
at_front groups old = groups ++ drop (length groups) old
