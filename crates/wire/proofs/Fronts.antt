-- Writing a list to the front of another, one by one.
use Rattle.std.proofs.Common.{◌≡◌, ℕ, zero, suc, ◌+◌, ◌<◌, ◌≤◌, List, [], ◌∷◌, ◌++◌, length, take, drop, map, get_or, set, ap, arith, add-one}

-- k of the items are written
abbrev pub partly : {A B : Type 0} → (A → B) → List A → ℕ → List B → List B
partly f xs k s = map f (take k xs) ++ drop k s

pub one_further : {A B : Type 0} (f : A → B) (xs : List A) (k : ℕ) (s : List B) (x : A) → k < length xs → length xs ≤ length s → x ≡ get_or xs k x → set (partly f xs k s) k (f x) ≡ partly f xs (suc k) s
one_further f [] k s x h l e = absurd (omega arith)
one_further f (y ∷ ys) k [] x h l e = absurd (omega arith)
one_further f (y ∷ ys) zero (t ∷ ts) x h l e = ap (λ z. f z ∷ ts) e
one_further f (y ∷ ys) (suc k) (t ∷ ts) x h l e = ap (λ z. f y ∷ z) (one_further f ys k ts x (omega arith) (omega arith) e)

pub one_more : {A B : Type 0} (f : A → B) (xs : List A) (k : ℕ) (s t : List B) (x : A) → k < length xs → length xs ≤ length s → x ≡ get_or xs k x → t ≡ partly f xs k s → set t k (f x) ≡ partly f xs (k + 1) s
one_more f xs k s t x h l e i = rw (add-one, i) (one_further f xs k s x h l e)
