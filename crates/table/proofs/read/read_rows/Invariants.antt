use Rattle.std.proofs.Common.{length}
use Rattle.table.proofs.Sofar.{Sofar}
use Rattle.table.proofs.read.read_rows.Given as goal

abbrev pub invariant-rows : goal.invariant-rows
invariant-rows l = Sofar l.body l.rest l.width l.records.items l.fields.items

abbrev pub decreases-rows : goal.decreases-rows
decreases-rows l = length l.rest
