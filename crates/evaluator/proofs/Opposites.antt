-- Wrapping negation: twice it changes nothing, and it is exact but for the smallest number.
use Rattle.std.proofs.Common.{◌≡◌, ℕ, zero, suc, ◌⊎◌, ℤ, pos, negsuc, ◌-ℤ◌, neg_ℤ, sym, refl, ap, ◌∙◌, inl, inr, ⊎_elim, arith, w64, SFits}
use lib.IntN.{+ℤ_idl, neg_ℤ-neg_ℤ}
use Rattle.std.specs.Int.{int_wrap}
use Rattle.std.proofs.lemmas.Int.{int_wrap_fits, int_wrap-sub_right}
use Rattle.std.proofs.lemmas.Bool.{cases_eq}
use Rattle.evaluator.specs.Arguments.{opposite}

pub opposite_twice : (z : ℤ) → SFits w64 z → opposite (opposite z) ≡ z
opposite_twice z f =
    let a : int_wrap w64 (neg_ℤ (opposite z)) ≡ int_wrap w64 (pos 0 -ℤ int_wrap w64 (neg_ℤ z)) = ap (int_wrap w64) (sym (+ℤ_idl (neg_ℤ (int_wrap w64 (neg_ℤ z))))) in
    let b : int_wrap w64 (pos 0 -ℤ int_wrap w64 (neg_ℤ z)) ≡ int_wrap w64 (pos 0 -ℤ neg_ℤ z) = int_wrap-sub_right w64 (pos 0) (neg_ℤ z) in
    let c : int_wrap w64 (pos 0 -ℤ neg_ℤ z) ≡ int_wrap w64 z = ap (int_wrap w64) (+ℤ_idl (neg_ℤ (neg_ℤ z)) ∙ neg_ℤ-neg_ℤ z) in
    a ∙ b ∙ c ∙ int_wrap_fits w64 z f

-- the smallest number is its own opposite
least : opposite (negsuc 9223372036854775807) ≡ negsuc 9223372036854775807
unfolding int_wrap
least = refl

pub opposite_is : (z : ℤ) → SFits w64 z → (opposite z ≡ neg_ℤ z) ⊎ ((z ≡ negsuc 9223372036854775807) × (opposite z ≡ z))
opposite_is (pos zero) f = inl (int_wrap_fits w64 (pos 0) (record { sfits = omega arith }))
opposite_is (pos (suc k)) f = inl (int_wrap_fits w64 (negsuc k) (record { sfits = omega (arith, f.sfits) }))
opposite_is (negsuc k) f = ⊎_elim (λ e. inr (ap negsuc e, ap (λ (n : ℕ). opposite (negsuc n)) e ∙ least ∙ sym (ap negsuc e))) (λ d. inl (int_wrap_fits w64 (pos (suc k)) (record { sfits = omega (arith, f.sfits, d) }))) (cases_eq k 9223372036854775807)
