use Rattle.picture.proofs.Appends.{row_more}
use Rattle.picture.proofs.draw.write_rows.Goals as goal

pub loop-i-preserved : goal.loop-i-preserved
loop-i-preserved c = row_more _ _ _ c.loop-i.i c.args.rows.now _ c.loop-i-test.true c.in_ok-write_row.ensures c.loop-i.invariant
