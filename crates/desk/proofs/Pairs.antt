-- Two lists that grow together.
use Rattle.std.proofs.Common.{◌≡◌, ℕ, ◌+◌, ◌<◌, List, [], ◌∷◌, ◌++◌, length, take, get_or, subst, sym, ap, ◌∙◌, ⊎_elim, arith}
use Rattle.std.proofs.Math.Seq.{get_or-append_seam}
use Rattle.std.proofs.lemmas.Bool.{cases_eq}
use Rattle.std.proofs.lemmas.List.{get_or-take, get_or_append_left}

-- what holds of each pair holds with the next
pub pairs_more : {X Y : Type 0} (P : ℕ → X → Y → Type 0) (xs : List X) (ys : List Y) (x : X) (y e : Y) (n : ℕ) → length ys ≡ n → ((k : ℕ) (d : X) → k < n → P k (get_or (take n xs) k d) (get_or ys k e)) → ((d : X) → get_or xs n d ≡ x) → P n x y → (k : ℕ) (d : X) → k < n + 1 → P k (get_or (take (n + 1) xs) k d) (get_or (ys ++ y ∷ []) k e)
pairs_more P xs ys x y e n many old is p k d h =
    let last : get_or (ys ++ y ∷ []) n e ≡ y = ap (λ (j : ℕ). get_or (ys ++ y ∷ []) j e) (sym many) ∙ get_or-append_seam ys y [] e in
    let new : P n (get_or (take (n + 1) xs) n d) (get_or (ys ++ y ∷ []) n e) = subst (λ z. P n z (get_or (ys ++ y ∷ []) n e)) (sym (get_or-take (n + 1) xs n d (omega arith) ∙ is d)) (subst (λ z. P n x z) (sym last) p) in
    ⊎_elim
    (λ q. subst (λ (j : ℕ). P j (get_or (take (n + 1) xs) j d) (get_or (ys ++ y ∷ []) j e)) (sym q) new)
    (λ ne.
    let l : k < n = omega (arith, ne) in
    let front : get_or (take n xs) k d ≡ get_or (take (n + 1) xs) k d = get_or-take n xs k d l ∙ sym (get_or-take (n + 1) xs k d h) in
    let stays : get_or ys k e ≡ get_or (ys ++ y ∷ []) k e = sym (get_or_append_left ys (y ∷ []) e k (omega arith)) in
    subst (λ z. P k z (get_or (ys ++ y ∷ []) k e)) front (subst (λ z. P k (get_or (take n xs) k d) z) stays (old k d l)))
    (cases_eq k n)
