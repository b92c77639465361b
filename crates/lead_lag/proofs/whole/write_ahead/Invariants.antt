use Rattle.std.proofs.Common.{◌≡◌, ◌+◌, ◌-◌, true}
use Rattle.std.specs.List.{slice_get}
use Rattle.column.specs.Cells.{column_cells, view}
use Rattle.column.proofs.Writes.{Written}
use Rattle.lead_lag.specs.declared.offset.Way.TheVariants.{Ahead}
use Rattle.present.specs.Present.{ahead}
use Rattle.lead_lag.specs.Shift.{shifted}
use Rattle.lead_lag.proofs.whole.write_ahead.Given as goal

abbrev pub invariant-rows : goal.invariant-rows
invariant-rows g l =
    let o = g.O.Output in
    Written o.slots o.stored o.size o.place (shifted (Ahead l.m) true l.default (column_cells l.column)) l.n l.i l.initial.out l.out × (l.source ≡ slice_get (ahead (view l.window) (l.i + 1) (l.n - (l.i + 1))) (l.m - 1))
