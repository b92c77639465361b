-- The one column of a name, where the columns behind the first of it have another. Assumes nothing.
use Rattle.std.proofs.Common.{◌≡◌, ℕ, ◌+◌, ◌-◌, ◌<◌, ◌≤◌, Bool, true, false, cond, List, length, get_or, drop, slice_range, sym, ap, ◌∙◌, subst, ⊎_elim, arith, Bor}
use Rattle.std.proofs.lemmas.List.{get_or-drop, length-drop, take_all}
use Rattle.std.proofs.lemmas.Bool.{cases_eq, cases_lt}
use Rattle.std.specs.List.{IsAnyAnswer}
use Rattle.std.specs.Str.{bytes_eq}
use Rattle.std.proofs.lemmas.Slice.Eq.{bytes_eq-Decides}
use Rattle.sessions.specs.Header.{Column, First}
use Rattle.sessions.specs.Faults.{Twice}

module _ (names : List (Bor (List ℕ))) (name : List ℕ) (k : ℕ) where
  behind_is : slice_range names (k + 1) (length names) ≡ drop (k + 1) names
  behind_is = take_all (length names - (k + 1)) (drop (k + 1) names) (omega (arith, length-drop (k + 1) names))

  -- a column behind column k
  behind : (j : ℕ) (d : Bor (List ℕ)) → get_or (slice_range names (k + 1) (length names)) j d ≡ get_or names (k + 1 + j) d
  behind j d = ap (λ l. get_or l j d) behind_is ∙ get_or-drop (k + 1) names j d

  many : length (slice_range names (k + 1) (length names)) ≡ length names - (k + 1)
  many = ap length behind_is ∙ length-drop (k + 1) names

  pub one_column : First names name k → (r : Bool) → IsAnyAnswer (λ y b. bytes_eq y.now name ≡ b) (slice_range names (k + 1) (length names)) r → r ≡ false → Column names name (length names) k
  one_column first true any e = let z : ◌≡◌ {A = ℕ} 0 1 = ap (λ b. cond b 0 1) e in absurd (omega (arith, z))
  one_column first false others e = record { within = first.within; named = first.named; lone = lone }
    where
      lone : (j : ℕ) (d : Bor (List ℕ)) → j < length names → (get_or names j d).now ≡ name → j ≡ k
      lone j d h is = ⊎_elim (λ (l : j < k). absurd (first.before j d l is)) (λ (l : k ≤ j). ⊎_elim (λ (q : j ≡ k). q) (λ (q : j ≡ k → ⊥). absurd (later l q)) (cases_eq j k)) (cases_lt j k)
        where
          later : k ≤ j → (j ≡ k → ⊥) → ⊥
          later l q =
              let m = j - (k + 1) in
              let at : k + 1 + m ≡ j = omega arith in
              let same = (bytes_eq-Decides _ name).1 (ap (λ r. r.now) (behind m d) ∙ subst (λ (i : ℕ). (get_or names i d).now ≡ name) (sym at) is) in
              let z : ◌≡◌ {A = ℕ} 0 1 = ap (λ b. cond b 1 0) (sym (others m d (omega arith) (omega (arith, many))) ∙ same) in
              absurd (omega (arith, z))

  pub two_columns : First names name k → (r : Bool) → IsAnyAnswer (λ y b. bytes_eq y.now name ≡ b) (slice_range names (k + 1) (length names)) r → r ≡ true → Twice names name
  two_columns first false none e = let z : ◌≡◌ {A = ℕ} 0 1 = ap (λ b. cond b 1 0) e in absurd (omega (arith, z))
  two_columns first true any e = record {
    one = k;
    other = k + 1 + any.0;
    apart = omega arith;
    within = omega (arith, many, any.1);
    first = first.named;
    second = λ d. ap (λ r. r.now) (sym (behind any.0 d)) ∙ (bytes_eq-Decides _ name).0 (any.2 d);
  }
