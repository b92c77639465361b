-- Columns that have a name, or have not.
use Rattle.std.proofs.Common.{◌≡◌, ℕ, ◌+◌, ◌<◌, ◌≤◌, true, false, List, length, get_or, sym, ap, ◌∙◌, ⊎_elim, arith, Bor}
use Rattle.std.proofs.lemmas.List.{get_or_default}
use Rattle.std.proofs.lemmas.Slice.Eq.{bytes_eq-Decides}
use Rattle.std.proofs.lemmas.Bool.{cases_eq, cases_lt}
use Rattle.std.specs.Str.{bytes_eq}
use Rattle.table.specs.Names.{IsColumn, Named}

pub named_here : (names : List (Bor (List ℕ))) (name : List ℕ) (i : ℕ) (e : Bor (List ℕ)) → i < length names → bytes_eq (get_or names i e).now name ≡ true → Named names name i
named_here names name i e h t = (h, λ d. ap (λ r. r.now) (get_or_default names i d e h) ∙ (bytes_eq-Decides _ name).0 t)

pub other_here : (names : List (Bor (List ℕ))) (name : List ℕ) (i : ℕ) (e : Bor (List ℕ)) → bytes_eq (get_or names i e).now name ≡ false → Named names name i → ⊥
other_here names name i e f n = let t : false ≡ true = sym f ∙ (bytes_eq-Decides _ name).1 (n.1 e) in absurd (cc)

-- the first column of a name, with no other behind it
pub one_column : (names : List (Bor (List ℕ))) (name : List ℕ) (k : ℕ) → Named names name k → ((j : ℕ) → 0 ≤ j → j < k → Named names name j → ⊥) → ((j : ℕ) → k + 1 ≤ j → Named names name j → ⊥) → IsColumn names name k
one_column names name k n before behind = record {
  named = n;
  lone = λ j m. ⊎_elim (λ (l : j < k). absurd (before j (omega arith) l m)) (λ (l : k ≤ j). ⊎_elim (λ (q : j ≡ k). q) (λ (q : j ≡ k → ⊥). absurd (behind j (omega arith) m)) (cases_eq j k)) (cases_lt j k);
}
