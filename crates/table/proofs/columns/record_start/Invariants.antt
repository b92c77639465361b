use Rattle.table.specs.FieldPlaces.{Parted}
use Rattle.table.proofs.columns.record_start.Given as goal

abbrev pub invariant-loop-i : goal.invariant-loop-i
invariant-loop-i l = Parted l.body l.table.width l.table.records.items l.table.fields.items l.i l.at
