-- What a window shows of a partition, and the order of a partition's frames.
use Rattle.std.specs.Prelude.{◌≡◌, ℕ, ◌+◌, ◌<◌, ◌≤◌, Bool, true, false, List, [], ◌∷◌, map, length, take, drop, Option, slice_index_or}
use Rattle.column.specs.declared.column.Window.{Window}
use Rattle.column.specs.Cells.{column_cells}
use Rattle.partition.specs.Table.{Frame}
use Rattle.evaluator.specs.Meaning.{Partition}

-- the cells that a window shows
abbrev pub shown : {V : Type 0} → Window V → List (Option V)
shown w = column_cells w.rows

-- the row after its last
abbrev pub end_of : {V : Type 0} → Window V → ℕ
end_of w = w.begin + length w.rows.values.now

-- `part` are the partition's rows from `begin` on, and all of them exist
pub record Shows {V : Type 0} (p : Partition V) (begin : ℕ) (part : List (Option V)) : Type 0 where
  pub within : begin + length part ≤ length p.rows
  pub same : part ≡ take (length part) (drop begin p.rows)

-- one frame for each row where frames are wanted, and no frames where they are not
abbrev pub Framed : {V : Type 0} → Bool → Partition V → Type 0
Framed true p = length p.frames ≡ length p.rows
Framed false p = p.frames ≡ []

-- the frame of row i, (0, 0) where there is none
abbrev pub frame_at : {V : Type 0} → Partition V → ℕ → Frame
frame_at p i = slice_index_or p.frames i (0, 0)

-- the frame of the row before row i, (0, 0) where there is none
abbrev pub frame_before : {V : Type 0} → Partition V → ℕ → Frame
frame_before p i = slice_index_or ((0, 0) ∷ p.frames) i (0, 0)

-- the frames of the rows below n begin no later than they end, and neither starts nor ends ever fall
pub record Ordered {V : Type 0} (p : Partition V) (n : ℕ) : Type 0 where
  pub proper : (k : ℕ) → k < n → k < length p.frames → (frame_at p k).0 ≤ (frame_at p k).1
  pub starts : (j k : ℕ) → j ≤ k → k < n → k < length p.frames → (frame_at p j).0 ≤ (frame_at p k).0
  pub ends : (j k : ℕ) → j ≤ k → k < n → k < length p.frames → (frame_at p j).1 ≤ (frame_at p k).1

-- all frames begin at 0
abbrev pub FromZero : {V : Type 0} → Partition V → Type 0
FromZero p = (k : ℕ) → (frame_at p k).0 ≡ 0

-- a frame made to begin at 0
abbrev pub zeroed : Frame → Frame
zeroed f = (0, f.1)

-- the frames, made to begin at 0 where a run is so set
abbrev pub based_frames : Bool → List Frame → List Frame
based_frames true fs = map zeroed fs
based_frames false fs = fs

-- the partition with these frames
abbrev pub based : {V : Type 0} → Bool → Partition V → Partition V
based from_zero p = record { rows = p.rows; frames = based_frames from_zero p.frames }
