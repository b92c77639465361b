use Rattle.std.proofs.Common.{true, length}
use Rattle.column.specs.Cells.{column_cells}
use Rattle.column.proofs.Writes.{Written}
use Rattle.lead_lag.specs.declared.offset.Way.TheVariants.{Back}
use Rattle.lead_lag.specs.Shift.{shifted, Holding}
use Rattle.lead_lag.proofs.whole.write_back.Given as goal

abbrev pub invariant-rows : goal.invariant-rows
invariant-rows g l =
    let o = g.O.Output in
    Written o.slots o.stored o.size o.place (shifted (Back l.m) true l.default (column_cells l.column)) (length l.column.values.now) l.i l.initial.out l.out × Holding (Back l.m) true l.held (column_cells l.column) l.i
