-- ROW_NUMBER: its laws.
use Rattle.std.specs.Prelude.{refl}
use Rattle.std.proofs.Common.{arith}
use Rattle.std.proofs.lemmas.List.{length-append}
use Rattle.std.proofs.lemmas.Bool.Decides.{nat_tests}
use Rattle.evaluator.specs.Meaning.{Laws}
use Rattle.rank.specs.declared.row_number.RowNumber.{RowNumber}
use Rattle.rank.specs.Numbers.{row_number_meaning}

pub row_number_lawful : {V : Type 0} (e : RowNumber V) → Laws (row_number_meaning e)
row_number_lawful e = record {
  below = λ rows frames known i h. grind (arith, nat_tests);
  at_total = λ rows frames i h. grind (arith, nat_tests);
  grows = λ rows more frames i h. grind (arith, nat_tests, length-append);
  local = λ p q a known i er ef len h. refl;
}
