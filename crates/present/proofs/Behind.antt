-- The present rows of a stretch, counted from its last, and those of a part of it.
use Rattle.std.proofs.Common.{◌≡◌, ℕ, zero, suc, ◌+◌, Bool, true, false, cond, List, [], ◌∷◌, ◌++◌, reverse, is_some, Option, sym, refl, ap, ◌∙◌, arith}
use Rattle.std.proofs.lemmas.List.{reverse-append}
use Rattle.present.specs.Present.{ahead}

-- the row itself if it is present
abbrev own : Bool → ℕ → List ℕ
own true k = k ∷ []
own false k = []

own_then : (b : Bool) (k : ℕ) (xs : List ℕ) → cond b (k ∷ xs) xs ≡ own b k ++ xs
own_then true k xs = refl
own_then false k xs = refl

own_push : (b c : Bool) (k e : ℕ) (xs ys : List ℕ) → xs ≡ ys ++ own c e → cond b (k ∷ xs) xs ≡ cond b (k ∷ ys) ys ++ own c e
own_push true c k e xs ys h = ap (λ (zs : List ℕ). k ∷ zs) h
own_push false c k e xs ys h = h

-- one row more at the end
ahead_push : {V : Type 0} (f : ℕ → Option V) (k n : ℕ) → ahead f k (suc n) ≡ ahead f k n ++ own (is_some (f (k + n))) (k + n)
ahead_push f k zero =
    let z : k + 0 ≡ k = omega arith in
    alone (is_some (f k)) k ∙ ap (λ (x : ℕ). own (is_some (f x)) x) (sym z)
  where
    alone : (b : Bool) (k : ℕ) → cond b (k ∷ []) [] ≡ own b k
    alone true k = refl
    alone false k = refl
ahead_push f k (suc n) =
    let e : k + 1 + n ≡ k + suc n = omega arith in
    own_push (is_some (f k)) (is_some (f (k + suc n))) k (k + suc n) (ahead f (k + 1) (suc n)) (ahead f (k + 1) n) (ahead_push f (k + 1) n ∙ ap (λ (x : ℕ). ahead f (k + 1) n ++ own (is_some (f x)) x) e)

reverse_own : (b : Bool) (e : ℕ) → reverse (own b e) ≡ own b e
reverse_own true e = refl
reverse_own false e = refl

-- counted from the last, one row more comes first if it is present
pub behind_push : {V : Type 0} (f : ℕ → Option V) (k n : ℕ) → reverse (ahead f k (suc n)) ≡ cond (is_some (f (k + n))) ((k + n) ∷ reverse (ahead f k n)) (reverse (ahead f k n))
behind_push f k n =
    let b = is_some (f (k + n)) in
    ap reverse (ahead_push f k n) ∙ (reverse-append (ahead f k n) (own b (k + n)) ∙ (ap (λ (xs : List ℕ). xs ++ reverse (ahead f k n)) (reverse_own b (k + n)) ∙ sym (own_then b (k + n) (reverse (ahead f k n)))))
