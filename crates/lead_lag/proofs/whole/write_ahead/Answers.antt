use Rattle.std.proofs.Common.{◌-◌, sym}
use Rattle.column.proofs.Cells.{length-cells}
use Rattle.column.proofs.Writes.{none_written, one_more}
use Rattle.lead_lag.proofs.Columns.{ahead_answer}
use Rattle.lead_lag.proofs.whole.write_ahead.Goals as goal

pub rows-init : goal.rows-init
rows-init g c =
    let o = g.O.Output in
    (none_written o.slots o.stored o.size o.place o.laws _ _ _ c.requires.room, c.present_ahead-source.ensures)

pub rows-preserved : goal.rows-preserved
rows-preserved g c =
    let o = g.O.Output in
    let col = c.args.column.now in
    let long = length-cells col.values.now col.marks.now c.requires.lengths in
    (one_more o.slots o.stored o.size o.place o.laws _ _ _ _ _ _ _ c.rows.invariant.0 c.put.ensures.slots c.put.ensures.place (ahead_answer col c.args.m c.args.default _ c.rows.i c.rows.source c.take_cell.result (sym long) c.rows.invariant.1 c.take_cell.ensures), c.pass_ahead-source.ensures.next (c.args.m - 1) c.rows.invariant.1)
