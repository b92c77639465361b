use Rattle.std.proofs.Common.{arith, rules}
use Rattle.desk.proofs.Placing.{none_placed, all_placed}
use Rattle.desk.proofs.text.places.Goals as goal

pub loop-place-init : goal.loop-place-init
loop-place-init c = record { all = search rules; placed = none_placed _ _ }

pub returns : goal.returns
returns c = all_placed c.args.turns.now c.loop-place.places.items c.loop-place.place c.loop-place.invariant.placed (omega arith) c.loop-place.invariant.all c.requires
