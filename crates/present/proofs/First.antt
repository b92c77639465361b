-- The first present row of a stretch, as a search finds it.
use Rattle.std.proofs.Common.{◌≡◌, ℕ, zero, suc, ◌+◌, ◌-◌, ◌<◌, ◌≤◌, Bool, true, false, cond, List, ◌∷◌, is_some, Some, None, Option, MatchOption, refl, sym, ap, ◌∙◌, ⊎_elim, arith}
use Rattle.std.specs.List.{slice_get}
use Rattle.std.proofs.lemmas.Bool.{cases_Bool, cond-true, cond-false, cases_eq}
use Rattle.present.specs.Present.{ahead}

-- what a search from row k over n rows says
abbrev pub Searched : {V : Type 0} → (ℕ → Option V) → ℕ → ℕ → Option ℕ → Type 0
Searched f k n r = MatchOption r
    ((j : ℕ) → k ≤ j → j < k + n → is_some (f j) ≡ false)
    (λ e. (k ≤ e) × (e < k + n) × (is_some (f e) ≡ true) × ((j : ℕ) → k ≤ j → j < e → is_some (f j) ≡ false))

pub first_ahead : {V : Type 0} (f : ℕ → Option V) (k n : ℕ) (r : Option ℕ) → Searched f k n r → r ≡ slice_get (ahead f k n) 0
first_ahead f k zero None h = refl
first_ahead f k zero (Some e) h = absurd (omega (arith, h.0, h.1))
first_ahead f k (suc n) None h =
    let here = h k (omega arith) (omega arith) in
    first_ahead f (k + 1) n None (λ j p q. h j (omega arith) (omega arith)) ∙ sym (ap (λ (xs : List ℕ). slice_get xs 0) (cond-false (is_some (f k)) _ _ here))
first_ahead f k (suc n) (Some e) h = ⊎_elim
    (λ y. let same : e ≡ k = ⊎_elim (λ q. q) (λ q. let z : true ≡ false = sym y ∙ h.3 k (omega arith) (omega (arith, h.0)) in absurd cc) (cases_eq e k) in
    ap Some same ∙ sym (ap (λ (xs : List ℕ). slice_get xs 0) (cond-true (is_some (f k)) _ _ y)))
    (λ z. let past : k + 1 ≤ e = ⊎_elim (λ q. let w : true ≡ false = sym h.2 ∙ ap (λ (x : ℕ). is_some (f x)) q ∙ z in absurd cc) (λ q. omega (arith, h.0)) (cases_eq e k) in
    first_ahead f (k + 1) n (Some e) (past, omega (arith, h.1), h.2, λ j p q. h.3 j (omega arith) q) ∙ sym (ap (λ (xs : List ℕ). slice_get xs 0) (cond-false (is_some (f k)) _ _ z)))
    (cases_Bool (is_some (f k)))

-- the same of a search that begins at row s, where that is row k or no row is searched
pub next_found : {V : Type 0} (f : ℕ → Option V) (s k e : ℕ) (r : Option ℕ) → ((j : ℕ) → k ≤ j → j < e → s ≤ j) → ((j : ℕ) → s ≤ j → j < e → k ≤ j) → MatchOption r ((j : ℕ) → s ≤ j → j < e → is_some (f j) ≡ false) (λ i. (s ≤ i) × (i < e) × (is_some (f i) ≡ true) × ((j : ℕ) → s ≤ j → j < i → is_some (f j) ≡ false)) → r ≡ slice_get (ahead f k (e - k)) 0
next_found f s k e None up down h = first_ahead f k (e - k) None (λ j p q. h j (up j p (omega (arith, p, q))) (omega (arith, p, q)))
next_found f s k e (Some i) up down h =
    let p = down i h.0 h.1 in
    first_ahead f k (e - k) (Some i) (p, omega (arith, p, h.1), h.2, λ j a b. h.3 j (up j a (omega (arith, b, h.1))) b)
