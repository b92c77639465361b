-- A fraction of all rows: its laws.
use Rattle.std.specs.Prelude.{◌≡◌, ℕ, Bool, true, Float}
use Rattle.std.proofs.Common.{sym, refl, ◌∙◌, arith}
use Rattle.std.proofs.lemmas.List.{take_all}
use Rattle.std.proofs.lemmas.Bool.Decides.{nat_tests}
use Rattle.partition.specs.Peers.{Group}
use Rattle.evaluator.specs.Meaning.{Laws}
use Rattle.rank.specs.Fractions.{fraction_meaning}

-- partitions of a total share all their rows
pub fraction_lawful : {V : Type 0} (grade : ℕ → Group → ℕ → Float) (same : V → V → Bool) → Laws (fraction_meaning grade same)
fraction_lawful grade same = record {
  below = λ rows frames known i h. grind (arith, nat_tests);
  at_total = λ rows frames i h. grind (arith, nat_tests);
  grows = λ rows more frames i h. absurd h;
  local = λ p q a known i er ef len h.
      let k : known ≡ true = grind (arith, nat_tests) in
      let l = len (rw k tt) in
      let e : p.rows ≡ q.rows = sym (take_all a p.rows (omega (arith, l.0))) ∙ er ∙ take_all a q.rows (omega (arith, l.1)) in
      rw e refl;
}
