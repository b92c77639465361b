-- What a column that passed its checks has.
use Rattle.std.proofs.Common.{◌≡◌, ℕ, ◌≤◌, None, arith}
use Rattle.std.proofs.lemmas.Bool.Decides.{nat_tests}
use Rattle.column.specs.Refusal.{column_refusal, row_limit}

pub column-says : (values marks : ℕ) → column_refusal values marks ≡ None → (values ≡ marks) × (values ≤ row_limit)
column-says values marks e = (grind (arith, nat_tests), grind (arith, nat_tests))
