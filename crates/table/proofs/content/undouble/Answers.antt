use Rattle.std.proofs.Common.{◌≡◌, length, arith}
use Rattle.table.proofs.Undoubled.{undoubled_all}
use Rattle.table.proofs.content.undouble.Goals as goal

pub returns : goal.returns
returns c = undoubled_all c.args.body.now c.loop-byte.content.items c.loop-byte.pending (let end : c.loop-byte.byte-index ≡ length c.args.body.now = omega arith in rw (← end) c.loop-byte.invariant)
