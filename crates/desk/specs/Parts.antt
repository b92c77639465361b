-- The partition that rows in turn make. Assumes nothing.
use Rattle.std.specs.Prelude.{◌≡◌, ℕ, ◌-◌, min, Bool, cond, List, [], length, map, pos, Some, None, Option, replicate, slice_index_or}
use Rattle.std.specs.List.{flat_map, range_with_len}
use Rattle.std.specs.Vec.{vec_items}
use Rattle.column.specs.declared.kind.Instant.{Instant}
use Rattle.column.specs.Cells.{cells}
use Rattle.column.specs.Kinds.{same_instant}
use Rattle.evaluator.specs.Meaning.{Partition}
use Rattle.options.specs.declared.frame.RowsFrame.{RowsFrame}
use Rattle.options.specs.Frames.{frame_rows}
use Rattle.partition.specs.Peers.{Group, peers}
use Rattle.partition.specs.Table.{Frame, Input}
use Rattle.turns.specs.declared.layout.Turn.{Turn}
use Rattle.desk.specs.declared.parts.Part.{Part}

-- the cell of a turn's row, of the cells of all rows
abbrev pub cell_at : {V : Type 0} → List (Option V) → Turn → Option V
cell_at cells t = slice_index_or cells t.row None

-- the number of an order as a value
abbrev pub order_value : ℕ → Instant
order_value n = record { 0 = pos (min n 9223372036854775807) }

-- the peer groups of rows in turn: the longest runs of one order
abbrev pub turn_groups : List Turn → List Group
turn_groups turns = peers same_instant (map (λ t. Some (order_value t.order)) turns)

-- SQL's default frames: for each row those from the first up to its last peer
abbrev pub peer_frames : List Group → List Frame
peer_frames groups = flat_map (λ g. replicate (g.1 - g.0) (0, g.1)) groups

-- the frame of each row of n
abbrev pub row_frames : RowsFrame → ℕ → List Frame
row_frames frame n = map (λ i. frame_rows frame i n) (range_with_len 0 n)

-- the frames of rows in turn
abbrev pub turn_frames : Option RowsFrame → List Turn → List Frame
turn_frames None turns = peer_frames (turn_groups turns)
turn_frames (Some frame) turns = row_frames frame (length turns)

-- the partition of rows in turn, as functions that look at frames or not mean it
abbrev pub part : {V : Type 0} → Bool → Option RowsFrame → List (Option V) → List Turn → Partition V
part wants frame cells turns = record { rows = map (cell_at cells) turns; frames = cond wants (turn_frames frame turns) [] }

-- lists that hold the cells, frames and groups of rows in turn
pub record IsPart {V : Type 0} (wants_frames wants_groups : Bool) (frame : Option RowsFrame) (all : List (Option V)) (turns : List Turn) (x : Input V) : Type 0 where
  pub as_many : length x.values ≡ length turns
  pub marked : length x.marks ≡ length turns
  pub rows : cells x.values x.marks ≡ map (cell_at all) turns
  pub frames : x.frames ≡ cond wants_frames (turn_frames frame turns) []
  pub groups : x.groups ≡ cond wants_groups (turn_groups turns) []

-- what the lists of a partition hold
abbrev pub held : {V : Type 0} → Part V → Input V
held p = record { values = vec_items p.cells.values; marks = vec_items p.cells.marks; frames = vec_items p.frames; groups = vec_items p.groups }
