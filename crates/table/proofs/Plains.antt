-- A plain field, and where it ends.
use Rattle.std.proofs.Common.{◌≡◌, ◌≢◌, ℕ, ◌<◌, true, List, [], ◌∷◌, length, take, drop, slice_index, slice_get, Some, refl, sym, ap, ◌∙◌, inl, arith, drop-cons}
use Rattle.std.proofs.lemmas.List.{take-append-drop, length-drop}
use Rattle.std.proofs.lemmas.Bool.Decides.{nat_tests}
use Rattle.table.specs.declared.field.Then.{Then}
use Rattle.table.specs.Fields.{After, Cuts, Plain, Stray, special}

returns_when : (b : ℕ) → special b ≡ true → b ≢ 34 → b ≢ 44 → b ≢ 10 → b ≡ 13
returns_when b = grind (arith, nat_tests)

pub breaks : (rest : List ℕ) → Stray rest → special (slice_index rest 0) ≡ true → slice_get rest 0 ≢ Some 34 → (slice_get rest 0 ≡ Some 13) × (slice_get rest 1 ≢ Some 10)
breaks [] stray s q = absurd (omega (arith, stray.some))
breaks (b ∷ bs) stray s q =
    let is : b ≡ 13 = returns_when b s (λ e. q (ap Some e)) (λ e. stray.comma (ap Some e)) (λ e. stray.feed (ap Some e)) in
    (ap Some is, stray.return (ap Some is))

pub special_next : (text rest : List ℕ) (at : ℕ) → rest ≡ drop at text → Stray rest → (at < length text → special (slice_index text at) ≡ true) → special (slice_index rest 0) ≡ true
special_next text rest at e stray stops =
    let h : at < length text = omega (arith, stray.some, ap length e, length-drop at text) in
    ap (λ l. special (slice_index l 0)) (e ∙ drop-cons text at 0 h) ∙ stops h

pub cut_plainly : (text raw rest : List ℕ) (at : ℕ) (then : Then) → raw ≡ take at text → rest ≡ drop at text → Plain (take at text) → After rest then → Cuts text raw then
cut_plainly text raw rest at then r e p a = (rest, rw (r, e) (sym (take-append-drop at text)), (raw, inl (refl, rw r p)), a)
