use Rattle.column.proofs.Writes.{none_written, one_more}
use Rattle.rank.proofs.row_number.write_numbers.Goals as goal

pub loop-row-init : goal.loop-row-init
loop-row-init g c =
    let o = g.O.Output in
    none_written o.slots o.stored o.size o.place o.laws _ _ _ c.requires.room

pub loop-row-preserved : goal.loop-row-preserved
loop-row-preserved g c =
    let o = g.O.Output in
    one_more o.slots o.stored o.size o.place o.laws _ _ _ _ _ _ _ c.loop-row.invariant c.put.ensures.slots c.put.ensures.place c.row_number.ensures
