-- Answers that are written one by one are a list's front.
use Rattle.std.proofs.Common.{◌≡◌, ℕ, zero, suc, ◌+◌, ◌-◌, ◌≤◌, List, [], ◌∷◌, ◌++◌, length, map, drop, slice_set, refl, sym, ap, ◌∙◌, arith}
use Rattle.std.specs.List.{range_with_len}
use Rattle.std.proofs.lemmas.List.{append_assoc, set-append_right}
use Rattle.std.proofs.lemmas.List.FromFn.{length-map-range_with_len, map-range_with_len_more}
use Rattle.column.specs.Slots.{written, listed}

-- the first of what is left, replaced
head_set : {A : Type 0} (l : List A) (n : ℕ) (a : A) → suc n ≤ length l → slice_set (drop n l) 0 a ≡ a ∷ drop (suc n) l
head_set [] n a h = absurd (omega (arith, h))
head_set (x ∷ xs) zero a h = refl
head_set (x ∷ xs) (suc n) a h = head_set xs n a (omega (arith, h))

more : {A : Type 0} (f : ℕ → A) (n : ℕ) (s : List A) → suc n ≤ length s → slice_set (listed f n s) n (f n) ≡ listed f (suc n) s
more {A} f n s h =
    let front : List A = map f (range_with_len 0 n) in
    let none : n - n ≡ 0 = omega arith in
    let next : n + 1 ≡ suc n = omega arith in
    set-append_right front (drop n s) n n (f n) (length-map-range_with_len f 0 n) (omega arith)
    ∙ ap (λ i. front ++ slice_set (drop n s) i (f n)) none
    ∙ ap (λ t. front ++ t) (head_set s n (f n) h)
    ∙ sym (append_assoc front (f n ∷ []) (drop (suc n) s))
    ∙ ap (λ t. t ++ drop (suc n) s) (sym (map-range_with_len_more f 0 n n (omega arith)))
    ∙ ap (λ m. map f (range_with_len 0 m) ++ drop (suc n) s) next

pub written_listed : {A : Type 0} (f : ℕ → A) (n : ℕ) (s : List A) → n ≤ length s → written (λ t i a. slice_set t i a) f s n ≡ listed f n s
unfolding written
written_listed f zero s h = refl
written_listed f (suc n) s h = ap (λ t. slice_set t n (f n)) (written_listed f n s (omega (arith, h))) ∙ more f n s h
