use Rattle.std.proofs.Common.{◌≡◌, ◌+◌, ◌*◌, length}
use Rattle.table.specs.Columns.{SayFields}
use Rattle.table.proofs.columns.contents.Given as goal

abbrev pub invariant-loop-row : goal.invariant-loop-row
invariant-loop-row l = (length l.contents.items ≡ l.row) × SayFields (λ k. (k + 1) * l.table.width + l.column) l.table.fields.items l.contents.items
