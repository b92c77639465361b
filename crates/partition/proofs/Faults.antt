-- The lowest place at fault.
use Rattle.std.proofs.Common.{◌≡◌, ℕ, zero, suc, ◌+◌, ◌<◌, ◌≤◌, min, max, Bool, true, false, not, ltb, eqb, cond, List, [], ◌∷◌, length, get_or, take, Some, None, sym, refl, ap, ◌∙◌, ⊎_elim, arith}
use Rattle.std.proofs.lemmas.Bool.{cond-true, cond-false, cases_Bool, cases_lt, lt-ltb, le-ltb}
use Rattle.std.proofs.lemmas.Bool.Decides.{nat_tests}
use Rattle.std.proofs.lemmas.List.{length-take-le}
use Rattle.std.specs.Bool.{then_some}
use Rattle.std.specs.List.{prefix_len, position}
use Rattle.std.specs.Option.{option_or}
use Rattle.partition.specs.Table.{lowest, fault_at}

pub lowest_is : (fault : ℕ → Bool) (n p : ℕ) → p ≤ n → ((k : ℕ) → k < p → fault k ≡ false) → (p < n → fault p ≡ true) → lowest fault n ≡ p
unfolding lowest
lowest_is fault zero zero h a z = refl
lowest_is fault zero (suc p) h a z = absurd (omega arith)
lowest_is fault (suc n) zero h a z = cond-true (fault 0) _ _ (z (omega arith))
lowest_is fault (suc n) (suc p) h a z = cond-false (fault 0) _ _ (a 0 (omega arith)) ∙ ap suc (lowest_is (λ k. fault (suc k)) n p (omega arith) (λ k l. a (suc k) (omega arith)) (λ l. z (omega arith)))

pub lowest-says : (fault : ℕ → Bool) (n : ℕ) → (lowest fault n ≤ n) × ((k : ℕ) → k < lowest fault n → fault k ≡ false)
unfolding lowest
lowest-says fault zero = (omega arith, λ k h. absurd (omega arith))
lowest-says fault (suc n) =
    let i = lowest-says (λ k. fault (suc k)) n in
    ⊎_elim
    (λ y. let e : lowest fault (suc n) ≡ 0 = cond-true (fault 0) _ _ y in (omega (arith, e), λ k h. absurd (omega (arith, e))))
    (λ z. let e : lowest fault (suc n) ≡ suc (lowest (λ k. fault (suc k)) n) = cond-false (fault 0) _ _ z in (omega (arith, e, i.0), below fault (lowest (λ k. fault (suc k)) n) z i.1 (lowest fault (suc n)) e))
    (cases_Bool (fault 0))
  where
    below : (fault : ℕ → Bool) (m : ℕ) → fault 0 ≡ false → ((k : ℕ) → k < m → fault (suc k) ≡ false) → (l : ℕ) → l ≡ suc m → (k : ℕ) → k < l → fault k ≡ false
    below fault m z a l e zero h = z
    below fault m z a l e (suc k) h = a k (omega arith)

pub fault_some : (fault : ℕ → Bool) (m n p : ℕ) → p ≤ min m n → p < max m n → ((k : ℕ) → k < p → fault k ≡ false) → (p < min m n → fault p ≡ true) → Some p ≡ fault_at fault m n
fault_some fault m n p h l a z =
    let e : lowest fault (min m n) ≡ p = lowest_is fault (min m n) p h a z in
    rw e (sym (cond-true (ltb p (max m n)) _ _ (lt-ltb p (max m n) l)))

pub fault_none : (fault : ℕ → Bool) (m n : ℕ) → m ≡ n → ((k : ℕ) → k < m → fault k ≡ false) → None ≡ fault_at fault m n
fault_none fault m n q a =
    let low : min m n ≡ m = omega arith in
    let e : lowest fault (min m n) ≡ m = rw low (lowest_is fault m m (omega arith) a (λ h. absurd (omega arith))) in
    rw e (sym (cond-false (ltb m (max m n)) _ _ (le-ltb m (max m n) (omega arith))))

pub fault_says : (fault : ℕ → Bool) (m n : ℕ) → fault_at fault m n ≡ None → (m ≡ n) × ((k : ℕ) → k < m → fault k ≡ false)
fault_says fault m n q =
    let s = lowest-says fault (min m n) in
    ⊎_elim
    (λ l. let e : fault_at fault m n ≡ Some (lowest fault (min m n)) = cond-true (ltb (lowest fault (min m n)) (max m n)) _ _ (lt-ltb _ _ l) in let z : ◌≡◌ {A = ℕ} 0 1 = cc in absurd (omega arith))
    (λ l. let e : m ≡ n = omega (arith, s.0) in (e, λ k h. s.1 k (omega arith)))
    (cases_lt (lowest fault (min m n)) (max m n))

-- the first place of a list at which a test passes, of those below m
lowest_prefix : {X : Type 0} (p : X → Bool) (d : X) (xs : List X) (m : ℕ) → m ≤ length xs → prefix_len (λ x. not (p x)) (take m xs) ≡ lowest (λ i. p (get_or xs i d)) m
unfolding lowest
lowest_prefix p d xs zero h = refl
lowest_prefix p d [] (suc m) h = absurd (omega arith)
lowest_prefix p d (x ∷ xs) (suc m) h =
    let i = lowest_prefix p d xs m (omega arith) in
    ⊎_elim
    (λ y. cond-false (not (p x)) _ _ (ap not y) ∙ sym (cond-true (p x) _ _ y))
    (λ z. cond-true (not (p x)) _ _ (ap not z) ∙ (ap (λ k. 1 + k) i ∙ omega arith) ∙ sym (cond-false (p x) _ _ z))
    (cases_Bool (p x))

-- that place, else the shorter length where the lengths differ
place_or_length : (a n l : ℕ) → l ≤ min a n → option_or (cond (ltb l (min a n)) (Some l) None) (then_some (not (eqb a n)) (min a n)) ≡ cond (ltb l (max a n)) (Some l) None
place_or_length a n l h =
    ⊎_elim
    (λ lt. ap (λ x. option_or x (then_some (not (eqb a n)) (min a n))) (cond-true (ltb l (min a n)) (Some l) None (lt-ltb l (min a n) lt)) ∙ sym (cond-true (ltb l (max a n)) (Some l) None (lt-ltb l (max a n) (omega arith))))
    (λ ge. ap (λ x. option_or x (then_some (not (eqb a n)) (min a n))) (cond-false (ltb l (min a n)) (Some l) None (le-ltb l (min a n) ge)) ∙ (let e : l ≡ min a n = omega arith in grind (arith, nat_tests)))
    (cases_lt l (min a n))

pub fault_found : {X : Type 0} (p : X → Bool) (d : X) (xs : List X) (n rows : ℕ) → rows ≡ min (length xs) n → option_or (position p (take rows xs)) (then_some (not (eqb (length xs) n)) rows) ≡ fault_at (λ i. p (get_or xs i d)) (length xs) n
fault_found p d xs n rows e =
    let long : length (take rows xs) ≡ rows = length-take-le rows xs (omega (arith, e)) in
    let first : prefix_len (λ x. not (p x)) (take rows xs) ≡ lowest (λ i. p (get_or xs i d)) rows = lowest_prefix p d xs rows (omega (arith, e)) in
    rw (first, long, e) (place_or_length (length xs) n (lowest (λ i. p (get_or xs i d)) (min (length xs) n)) (lowest-says (λ i. p (get_or xs i d)) (min (length xs) n)).0)
