use Rattle.std.proofs.Common.{arith, ◌≤◌, length}
use Rattle.std.proofs.lemmas.List.{length-take}
use Rattle.table.proofs.Sofar.{fault_within}
use Rattle.table.proofs.read.read.Goals as goal

pub slice_bounds-end_of-end : goal.slice_bounds-end_of-end
slice_bounds-end_of-end c = let within : c.in-Err-At.at ≤ length c.without_mark-body.result.now = fault_within c.without_mark-body.result.now c.in-Err-At.at c.in-Err-At.fault (rw c.in-Err-At.field-0-is at c.in-Err-At.ensures) in omega (arith, length-take c.in-Err-At.at c.without_mark-body.result.now)
