-- The rows of a table in turn. Assumes nothing.
use Rattle.std.specs.Prelude.{ℕ, ◌-◌, List, length, replicate, IsPermutation, IsSorted}
use Rattle.options.specs.declared.asked.Asked.{Asked}
use Rattle.std.specs.Vec.{vec_items}
use Rattle.turns.specs.declared.layout.Turn.{Turn}
use Rattle.turns.specs.Numbers.{Alike, Ordered}
use Rattle.turns.specs.Turns.{FileOrder, turn_cmp}
use Rattle.desk.specs.Columns.{RefinedBy, Sheet}

-- all rows have one number at first
abbrev pub unnumbered : Sheet → List ℕ
unnumbered s = replicate (length s.records - 1) 0

-- all rows, numbered by the columns of the partitions and of the order, and sorted by these numbers
pub record InTurn (s : Sheet) (asked : Asked) (partitions orders : List ℕ) (turns : List Turn) : Type 0 where
  pub parts : RefinedBy Alike s (unnumbered s) (vec_items asked.partition_by) partitions
  pub order : RefinedBy Ordered s (unnumbered s) (vec_items asked.order_by) orders
  pub rows : List Turn
  pub file : FileOrder partitions orders rows
  pub all : IsPermutation rows turns
  pub sorted : IsSorted turn_cmp turns
