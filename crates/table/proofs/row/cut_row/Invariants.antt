use Rattle.std.proofs.Common.{length}
use Rattle.table.proofs.Begun.{Begun}
use Rattle.table.proofs.row.cut_row.Given as goal

abbrev pub invariant-fields : goal.invariant-fields
invariant-fields l = Begun l.text l.at l.rest l.initial.fields.items l.fields.items

abbrev pub decreases-fields : goal.decreases-fields
decreases-fields l = length l.rest
