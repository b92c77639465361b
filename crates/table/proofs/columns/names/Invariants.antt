use Rattle.std.proofs.Common.{◌≡◌, length}
use Rattle.table.specs.Columns.{SayFields}
use Rattle.table.proofs.columns.names.Given as goal

abbrev pub invariant-loop-raw : goal.invariant-loop-raw
invariant-loop-raw l = (length l.names.items ≡ l.raw-index) × SayFields (λ k. k) l.table.fields.items l.names.items
