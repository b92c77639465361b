-- ROW_NUMBER's row call.
use Rattle.std.specs.Prelude.{◌≡◌, ℕ, ◌+◌, ◌<◌, max, Bool, false, Ok}
use Rattle.std.proofs.Common.{arith, rules}
use Rattle.std.proofs.lemmas.Bool.Decides.{nat_tests}
use Rattle.column.specs.declared.column.Window.{Window}
use Rattle.partition.specs.Table.{Frame}
use Rattle.run.specs.Shown.{end_of}
use Rattle.run.specs.Rows.{Handed, RowCall}
use Rattle.run.proofs.Seen.{seen_rows}
use Rattle.rank.specs.declared.row_number.RowNumber.{RowNumber}
use Rattle.rank.specs.Numbers.{row_number_meaning}

-- the call that finds its row below the window's end
pub numbers : {V : Type 0} (e f : RowNumber V) (i : ℕ) (w : Window V) (frame : Frame) (known : Bool) → Handed false e.n_rows w frame known → i < end_of w → f.n_rows ≡ max e.n_rows (i + 1) → (x : ℕ) → x ≡ i + 1 → RowCall row_number_meaning false i w frame known e f (Ok x)
numbers e f i w frame known h l m x ex = record {
  alike = search rules;
  mark = search rules;
  outcome = l;
  given = λ p q. let r = seen_rows (row_number_meaning e) false e.n_rows i w frame known h p q in let s : e.n_rows ≡ i = q.stands in grind (arith, nat_tests);
}
