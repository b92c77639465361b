-- A push that keeps what holds of each place. Assumes nothing.
use Rattle.std.proofs.Common.{◌≡◌, ℕ, ◌+◌, ◌<◌, List, [], ◌∷◌, ◌++◌, length, get_or, sym, subst, ⊎_elim, arith}
use Rattle.std.proofs.lemmas.List.{get_or_push, get_or_append_left}
use Rattle.std.proofs.lemmas.Bool.{cases_eq}

pub each_push : {X : Type 0} (P : ℕ → X → Type 0) (xs : List X) (x d : X) (i : ℕ) → length xs ≡ i → ((k : ℕ) → k < i → P k (get_or xs k d)) → P i x → (k : ℕ) → k < i + 1 → P k (get_or (xs ++ (x ∷ [])) k d)
each_push P xs x d i long old new k h = ⊎_elim newest (λ (q : k ≡ i → ⊥). older (omega arith)) (cases_eq k i)
  where
    newest : k ≡ i → P k (get_or (xs ++ (x ∷ [])) k d)
    newest q = subst (λ (a : ℕ). P a (get_or (xs ++ (x ∷ [])) a d)) (sym q) (subst (P i) (sym (get_or_push xs x d i long)) new)

    older : k < i → P k (get_or (xs ++ (x ∷ [])) k d)
    older l = subst (P k) (sym (get_or_append_left xs (x ∷ []) d k (omega arith))) (old k l)
