-- Which rows lie in a row's frame. Assumes nothing.
use Rattle.std.specs.Prelude.{ℕ, ◌+◌, ◌-◌, ◌<◌, ◌≤◌, ◌↔◌, min, max}
use Rattle.options.specs.declared.frame.Bound.{Bound}
use Rattle.options.specs.declared.frame.Bound.TheVariants.{UnboundedPreceding, Preceding, CurrentRow, Following, UnboundedFollowing}
use Rattle.options.specs.declared.frame.RowsFrame.{RowsFrame}

-- row j is not before a start bound of row i
abbrev pub NotBefore : Bound → ℕ → ℕ → Type 0
NotBefore UnboundedPreceding i j = Unit {0}
NotBefore (Preceding k) i j = i ≤ j + k
NotBefore CurrentRow i j = i ≤ j
NotBefore (Following k) i j = i + k ≤ j
NotBefore UnboundedFollowing i j = ⊥

-- row j is not after an end bound of row i
abbrev pub NotAfter : Bound → ℕ → ℕ → Type 0
NotAfter UnboundedPreceding i j = ⊥
NotAfter (Preceding k) i j = j + k ≤ i
NotAfter CurrentRow i j = j ≤ i
NotAfter (Following k) i j = j ≤ i + k
NotAfter UnboundedFollowing i j = Unit {0}

-- of the n rows of a partition, those of the frame of row i are the rows from the pair's first up to its second, the second not included
pub record FrameLaw (f : RowsFrame) (i n : ℕ) (rows : ℕ × ℕ) : Type 0 where
  pub inside : (j : ℕ) → j < n → ((rows.0 ≤ j) × (j < rows.1)) ↔ (NotBefore f.start i j × NotAfter f.end i j)
  pub ordered : rows.0 ≤ rows.1
  pub clipped : rows.1 ≤ n

-- the first row that is not before a start bound, of n rows
abbrev pub first_row : Bound → ℕ → ℕ → ℕ
first_row UnboundedPreceding i n = 0
first_row (Preceding k) i n = min (i - k) n
first_row CurrentRow i n = min i n
first_row (Following k) i n = min (i + k) n
first_row UnboundedFollowing i n = n

-- the row after the last one that is not after an end bound
abbrev pub last_row_end : Bound → ℕ → ℕ → ℕ
last_row_end UnboundedPreceding i n = 0
last_row_end (Preceding k) i n = min (i + 1 - k) n
last_row_end CurrentRow i n = min (i + 1) n
last_row_end (Following k) i n = min (i + k + 1) n
last_row_end UnboundedFollowing i n = n

-- the frame of row i among n rows; where no row lies in it, it ends where it starts
abbrev pub frame_rows : RowsFrame → ℕ → ℕ → ℕ × ℕ
frame_rows f i n = (first_row f.start i n, max (last_row_end f.end i n) (first_row f.start i n))
