use Rattle.std.proofs.Common.{sym}
use Rattle.column.proofs.Cells.{length-cells}
use Rattle.column.proofs.Writes.{none_written, one_more}
use Rattle.lead_lag.proofs.Columns.{off_answer}
use Rattle.lead_lag.proofs.whole.write_off.Goals as goal

pub rows-init : goal.rows-init
rows-init g c =
    let o = g.O.Output in
    none_written o.slots o.stored o.size o.place o.laws _ _ _ c.requires.room

pub rows-preserved : goal.rows-preserved
rows-preserved g c =
    let o = g.O.Output in
    let col = c.args.column.now in
    let long = length-cells col.values.now col.marks.now c.requires.lengths in
    one_more o.slots o.stored o.size o.place o.laws _ _ _ _ _ _ _ c.rows.invariant c.put.ensures.slots c.put.ensures.place (off_answer col c.args.way c.args.default _ c.rows.i c.row_off.result c.take_cell.result (sym long) c.row_off.ensures c.take_cell.ensures)
