use Rattle.std.proofs.Common.{◌≡◌, ◌+◌}
use Rattle.table.proofs.Fielding.{before}
use Rattle.table.proofs.columns.field_start.Given as goal

abbrev pub invariant-loop-i : goal.invariant-loop-i
invariant-loop-i l = l.at ≡ l.initial.at + before l.table.width l.table.fields.items l.number l.i
