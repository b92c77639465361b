use Rattle.std.proofs.Common.{arith}
use Rattle.table.proofs.Quotes.{closed_before, next_other, seen_other, seen_quote}
use Rattle.table.proofs.field.closing_quote.Goals as goal
use Rattle.table.proofs.field.closing_quote.Goals.{then-byte-eq34, else-byte-eq34+else-pending}

pub returns-then-pending : goal.returns-then-pending
returns-then-pending c = closed_before c.args.body.now c.loop-i.i (omega arith) (rw (← c.if-pending.true) c.loop-i.invariant) (next_other c.args.body.now c.loop-i.i c.loop-i-test.true c.if-byte-eq34.false)

pub loop-i-preserved : goal.loop-i-preserved
loop-i-preserved c = elim c.if-byte-eq34.branch [
  | then-byte-eq34 w ↦ seen_quote c.loop-i.pending _ c.args.body.now c.loop-i.i c.loop-i-test.true w.if-byte-eq34.true w.pending-is c.loop-i.invariant
  | else-byte-eq34+else-pending w ↦ rw (w.pending-is, w.if-pending.false) (seen_other c.args.body.now c.loop-i.i c.loop-i-test.true w.if-byte-eq34.false (rw (← w.if-pending.false) c.loop-i.invariant))
]
