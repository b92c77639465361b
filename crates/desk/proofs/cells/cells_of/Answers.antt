use Rattle.desk.specs.Parts.{cell_at}
use Rattle.desk.proofs.Fillers.{cells_are}
use Rattle.desk.proofs.cells.cells_of.Goals as goal

pub returns-clause-rows : goal.returns-clause-rows
returns-clause-rows g c = cells_are (cell_at c.args.all.now) c.args.turns.now c.filler.result c.in_ok-values.values.items c.in_ok-marks.marks.items c.in_ok-values.ensures c.in_ok-marks.ensures
