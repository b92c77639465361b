use Rattle.column.specs.Cells.{view}
use Rattle.present.proofs.Counts.{scan_found, scan_on, scan_past}
use Rattle.present.proofs.scan.present_ahead.Goals as goal
use Rattle.present.proofs.scan.present_ahead.Goals.{then-is_some+else-left-le1, else-is_some}

pub returns-then-left-le1 : goal.returns-then-left-le1
returns-then-left-le1 g c =
    scan_found (view c.args.window.now) c.loop-row.row c.args.end c.loop-row.left _ c.loop-row-test.true (cc) c.if-left-le1.true c.loop-row.invariant

pub loop-row-preserved : goal.loop-row-preserved
loop-row-preserved g c =
    elim c.if-is_some.branch [ then-is_some+else-left-le1 w ↦ scan_on (view c.args.window.now) c.loop-row.row c.args.end c.loop-row.left c.if-is_some.left _ c.loop-row-test.true (cc) w.if-left-le1.false w.left-is c.loop-row.invariant | else-is_some w ↦ scan_past (view c.args.window.now) c.loop-row.row c.args.end c.loop-row.left c.if-is_some.left _ c.loop-row-test.true (cc) w.left-is c.loop-row.invariant ]
