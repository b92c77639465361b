use Rattle.std.proofs.Common.{◌≡◌, ℕ, ◌+◌, ◌<◌, List, [], ◌∷◌, ◌++◌, length, length-append, get_or, inl, inr, sym, subst, arith}
use Rattle.std.proofs.Math.Seq.{get_or-append_seam}
use Rattle.std.proofs.lemmas.Bool.{cases_lt}
use Rattle.std.proofs.lemmas.List.{get_or_append_left}
use Rattle.std.specs.List.{slice_index_or}

-- what holds of each item by its place still does with one item more, of which it holds too
pub each_still : {A : Type 0} (P : ℕ → A → Type 0) (xs ys : List A) (n : ℕ) (x : A) → n ≡ length xs → ys ≡ xs ++ (x ∷ []) → ((k : ℕ) (d : A) → k < length xs → P k (slice_index_or xs k d)) → P n x → (k : ℕ) (d : A) → k < length ys → P k (slice_index_or ys k d)
each_still P xs ys n x count whole each last k d below = rw whole elim (cases_lt k (length xs)) [
  | inl low ↦ rw (get_or_append_left xs (x ∷ []) d k low) (each k d low)
  | inr high ↦
      let long : length ys ≡ length xs + 1 = rw whole (length-append xs (x ∷ [])) in
      let here : k ≡ length xs = omega (arith, long, below, high) in
      rw (here, get_or-append_seam xs x [] d) (subst (λ m. P m x) count last)
]
