use Rattle.std.proofs.Common.{true, rules}
use Rattle.column.specs.Cells.{column_cells}
use Rattle.column.proofs.Cells.{length-cells}
use Rattle.column.proofs.Writes.{none_written, one_more}
use Rattle.lead_lag.specs.declared.offset.Way.TheVariants.{Back}
use Rattle.lead_lag.proofs.Holds.{fresh_holds}
use Rattle.lead_lag.proofs.Columns.{held_answer, held_on}
use Rattle.lead_lag.proofs.whole.write_back.Goals as goal

pub rows-init : goal.rows-init
rows-init g c =
    let o = g.O.Output in
    (none_written o.slots o.stored o.size o.place o.laws _ _ _ c.requires.room, fresh_holds (Back c.args.m) true (column_cells c.args.column.now))

pub rows-preserved : goal.rows-preserved
rows-preserved g c =
    let o = g.O.Output in
    let col = c.args.column.now in
    let long = length-cells col.values.now col.marks.now c.requires.lengths in
    (one_more o.slots o.stored o.size o.place o.laws _ _ _ _ _ _ _ c.rows.invariant.0 c.put.ensures.slots c.put.ensures.place (held_answer col (Back c.args.m) true c.args.default c.rows.held _ c.rows.i c.oldest_source.result c.take_cell.result c.requires.proper long c.rows-test.true c.rows.invariant.1 c.oldest_source.ensures c.take_cell.ensures), held_on col c.args.m c.rows.held c.count_row-held.result c.rows.i c.requires.proper c.rows.invariant.1 (search rules))
