use Rattle.wire.specs.Whole.{handed}
use Rattle.wire.proofs.Ends.{done_told}
use Rattle.wire.proofs.Filled.{cells_filled}
use Rattle.wire.proofs.whole.cells.Goals as goal

pub returns-clause-filled : goal.returns-clause-filled
returns-clause-filled g c h =
    cells_filled g.C.Crossing.coding g.C.Value.Kind.same c.args.function.now c.args.default (handed c.args.lent.now) (record { values = c.args.values.now; marks = c.args.marks.now }) (record { values = c.try_cells.new.values; marks = c.try_cells.new.marks }) c.of_unit.result h
    (done_told _ _ _ _ _ _ c.of_unit.ensures c.try_cells.ensures)

pub returns-clause-call : goal.returns-clause-call
returns-clause-call g c = done_told _ _ _ _ _ _ c.of_unit.ensures c.try_cells.ensures
