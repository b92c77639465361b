-- ROW_NUMBER.
use Rattle.std.specs.Prelude.{◌≡◌, ℕ, ◌+◌, max, length, nat_lt}
use Rattle.column.specs.declared.column.Window.{Window}
use Rattle.partition.specs.Table.{Frame}
use Rattle.evaluator.specs.Meaning.{Meaning}
use Rattle.rank.specs.declared.row_number.RowNumber.{RowNumber}

-- one more than the row
abbrev pub row_number_meaning : {V : Type 0} → RowNumber V → Meaning V ℕ
row_number_meaning e = record {
  answer = λ p i. i + 1;
  stands = λ p i. e.n_rows ≡ i;
  settled = λ rows frames known i. nat_lt i (length rows);
  keep = e.n_rows;
}

-- a new one
abbrev pub new_row_number : {V : Type 0} → RowNumber V
new_row_number = record { n_rows = 0; kind = record {} }

-- what an accepted row call leaves
abbrev pub row_number_stepped : {V : Type 0} → RowNumber V → ℕ → Window V → Frame → RowNumber V
row_number_stepped e i w f = record { n_rows = max e.n_rows (i + 1); kind = e.kind }

-- settling leaves it as it was
abbrev pub row_number_settling : {V : Type 0} → RowNumber V → ℕ → Frame → RowNumber V
row_number_settling e i f = e
