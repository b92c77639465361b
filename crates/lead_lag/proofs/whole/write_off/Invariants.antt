use Rattle.std.proofs.Common.{false}
use Rattle.column.specs.Cells.{column_cells}
use Rattle.column.proofs.Writes.{Written}
use Rattle.lead_lag.specs.Shift.{shifted}
use Rattle.lead_lag.proofs.whole.write_off.Given as goal

abbrev pub invariant-rows : goal.invariant-rows
invariant-rows g l =
    let o = g.O.Output in
    Written o.slots o.stored o.size o.place (shifted l.way false l.default (column_cells l.column)) l.n l.i l.initial.out l.out
