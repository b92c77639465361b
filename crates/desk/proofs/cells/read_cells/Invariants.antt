use Rattle.std.proofs.Common.{take, vec_items}
use Rattle.desk.specs.Cells.{AreCells}
use Rattle.desk.proofs.cells.read_cells.Given as goal

abbrev pub invariant-loop-row : goal.invariant-loop-row
invariant-loop-row g l = AreCells g.K.FieldValue.says (take l.row l.contents) (vec_items l.cells)
