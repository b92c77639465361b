-- Numbers that rise with keys in order.
use Rattle.std.proofs.Common.{◌≡◌, ℕ, ◌+◌, ◌-◌, ◌<◌, ◌≤◌, false, List, [], ◌∷◌, ◌++◌, length, get_or, sym, ap, ◌∙◌, ⊎_elim, arith, below_more, length-append}
use Rattle.std.proofs.Math.Seq.{get_or-append_seam}
use Rattle.std.proofs.lemmas.Bool.{cases_eq, cases_lt}
use Rattle.std.proofs.lemmas.Bool.Decides.{nat_tests}
use Rattle.std.proofs.lemmas.Cmp.{alike_right, nat_cmp_total, tied_itself}
use Rattle.std.proofs.lemmas.List.{get_or_append_left, get_or_default}
use Rattle.std.specs.Cmp.{IsTotalOrder}
use Rattle.std.specs.Int.{from_bool}
use Rattle.std.specs.List.Sorted.{IsSorted}
use Rattle.std.specs.Ordering.{is_lt, nat_cmp, ordering_reverse}
use Rattle.std.specs.declared.cmp.Ordering.{Ordering}
use Rattle.std.specs.declared.cmp.Ordering.TheVariants.{Less, Equal, Greater}
use Rattle.turns.specs.Keys.{Numbered}

less : (a b : ℕ) → a < b → nat_cmp a b ≡ Less
less a b h = grind (arith, nat_tests)

same : (a b : ℕ) → a ≡ b → nat_cmp a b ≡ Equal
same a b h = grind (arith, nat_tests)

-- the numbers of the first keys, and the last of them
pub record Climbed {K : Type 0} (cmp : K → K → Ordering) (keys : List K) (i : ℕ) (numbers : List ℕ) (number : ℕ) : Type 0 where
  pub all : length numbers ≡ i
  pub each : (p q : ℕ) (d : K) → p < i → q < i → nat_cmp (get_or numbers p 0) (get_or numbers q 0) ≡ cmp (get_or keys p d) (get_or keys q d)
  pub top : (p : ℕ) → p < i → get_or numbers p 0 ≤ number
  pub last : 0 < i → get_or numbers (i - 1) 0 ≡ number
  pub small : number ≤ i - 1

-- a number that rises by one where the key does
risen : (o : Ordering) → is_lt (ordering_reverse o) ≡ false → (n r : ℕ) → r ≡ from_bool (is_lt o) → nat_cmp n (n + r) ≡ o
risen Less h n r e = less n (n + r) (omega (arith, e))
risen Equal h n r e = same n (n + r) (omega (arith, e))
risen Greater h n r e = absurd (cc)

module _ {K : Type 0} {cmp : K → K → Ordering} (o : IsTotalOrder cmp) where
  joined : (a b m : ℕ) (x y z : K) → a ≤ b → b ≤ m → nat_cmp a b ≡ cmp x y → nat_cmp b m ≡ cmp y z → nat_cmp a m ≡ cmp x z
  joined a b m x y z ab bm e f =
      ⊎_elim
      (λ (l : a < b).
      ⊎_elim
      (λ (k : b < m). less a m (omega arith) ∙ sym (o.trans x y z (sym e ∙ less a b l) (sym f ∙ less b m k)))
      (λ (k : m ≤ b). let s : b ≡ m = omega arith in ap (nat_cmp a) (sym s) ∙ e ∙ alike_right o y z x (sym f ∙ same b m s))
      (cases_lt b m))
      (λ (l : b ≤ a). let s : a ≡ b = omega arith in ap (λ n. nat_cmp n m) s ∙ f ∙ sym (o.congr x y z (sym e ∙ same a b s)))
      (cases_lt a b)

  module _ (keys : List K) (i : ℕ) (numbers : List ℕ) (number m : ℕ) (pushed : List ℕ) (c : Climbed cmp keys i numbers number) (p : pushed ≡ numbers ++ (m ∷ [])) (up : number ≤ m) (low : m ≤ i) (step : (d : K) → 0 < i → nat_cmp number m ≡ cmp (get_or keys (i - 1) d) (get_or keys i d)) where
    old : (k : ℕ) → k < i → get_or pushed k 0 ≡ get_or numbers k 0
    old k h = ap (λ l. get_or l k 0) p ∙ get_or_append_left numbers (m ∷ []) 0 k (omega (arith, c.all))

    new : get_or pushed i 0 ≡ m
    new = ap (λ l. get_or l i 0) p ∙ ap (λ n. get_or (numbers ++ (m ∷ [])) n 0) (sym c.all) ∙ get_or-append_seam numbers m [] 0

    below : (k : ℕ) (d : K) → k < i → nat_cmp (get_or pushed k 0) (get_or pushed i 0) ≡ cmp (get_or keys k d) (get_or keys i d)
    below k d h =
        let some : 0 < i = omega arith in
        let a : nat_cmp (get_or numbers k 0) number ≡ cmp (get_or keys k d) (get_or keys (i - 1) d) = ap (nat_cmp (get_or numbers k 0)) (sym (c.last some)) ∙ c.each k (i - 1) d h (omega arith) in
        ap (λ n. nat_cmp n (get_or pushed i 0)) (old k h) ∙ ap (nat_cmp (get_or numbers k 0)) new ∙ joined (get_or numbers k 0) number m (get_or keys k d) (get_or keys (i - 1) d) (get_or keys i d) (c.top k h) up a (step d some)

    above : (k : ℕ) (d : K) → k < i → nat_cmp (get_or pushed i 0) (get_or pushed k 0) ≡ cmp (get_or keys i d) (get_or keys k d)
    above k d h = nat_cmp_total.antisymm (get_or pushed i 0) (get_or pushed k 0) ∙ ap ordering_reverse (below k d h) ∙ sym (o.antisymm (get_or keys i d) (get_or keys k d))

    here : (d : K) → nat_cmp (get_or pushed i 0) (get_or pushed i 0) ≡ cmp (get_or keys i d) (get_or keys i d)
    here d = tied_itself nat_cmp_total (get_or pushed i 0) ∙ sym (tied_itself o (get_or keys i d))

    Pair : ℕ → ℕ → K → Type 0
    Pair k l d = nat_cmp (get_or pushed k 0) (get_or pushed l 0) ≡ cmp (get_or keys k d) (get_or keys l d)

    -- the number of one key more
    pub climb_on : Climbed cmp keys (i + 1) pushed m
    unfolding Pair
    climb_on = record {
      all = omega (arith, ap length p, length-append numbers (m ∷ []), c.all);
      each = λ k l d hk hl.
          below_more (λ k. Pair k l d) i
          (λ k hk. below_more (λ l. Pair k l d) i (λ l hl. ap (λ n. nat_cmp n (get_or pushed l 0)) (old k hk) ∙ ap (nat_cmp (get_or numbers k 0)) (old l hl) ∙ c.each k l d hk hl) (below k d hk) l hl)
          (below_more (λ l. Pair i l d) i (λ l hl. above l d hl) (here d) l hl)
          k hk;
      top = λ k h. below_more (λ k. get_or pushed k 0 ≤ m) i (λ k h. omega (arith, old k h, c.top k h)) (omega (arith, new)) k h;
      last = λ h. ap (λ n. get_or pushed n 0) (omega arith) ∙ new;
      small = omega (arith, low);
    }

small_rise : (o : Ordering) → from_bool (is_lt o) ≤ 1
small_rise Less = omega arith
small_rise Equal = omega arith
small_rise Greater = omega arith

-- the number of the next of keys in order
pub climb_step : {K : Type 0} {cmp : K → K → Ordering} → IsTotalOrder cmp → (keys : List K) (i before : ℕ) (e f : K) (numbers : List ℕ) (number rise : ℕ) (pushed : List ℕ) → Climbed cmp keys i numbers number → pushed ≡ numbers ++ ((number + rise) ∷ []) → i < length keys → IsSorted cmp keys → before ≡ i - 1 → rise ≡ from_bool (is_lt (cmp (get_or keys before e) (get_or keys i f))) → Climbed cmp keys (i + 1) pushed (number + rise)
climb_step {cmp = cmp} o keys i before e f numbers number rise pushed c p h sorted b r =
    let small : rise ≤ 1 = omega (arith, r, small_rise (cmp (get_or keys before e) (get_or keys i f))) in
    let none : i ≡ 0 → rise ≡ 0 = λ z.
    let one : get_or keys before e ≡ get_or keys i f = ap (λ n. get_or keys n e) (omega (arith, b, z)) ∙ get_or_default keys i e f h in
    r ∙ ap (λ x. from_bool (is_lt (cmp x (get_or keys i f)))) one ∙ ap (λ o. from_bool (is_lt o)) (tied_itself o (get_or keys i f)) in
    let low : number + rise ≤ i = ⊎_elim (λ (z : i ≡ 0). omega (arith, c.small, none z)) (λ (z : i ≡ 0 → ⊥). let some : 0 < i = grind (arith, z) in omega (arith, c.small, small)) (cases_eq i 0) in
    climb_on o keys i numbers number (number + rise) pushed c p (omega arith) low
    (λ d some.
    let up : is_lt (cmp (get_or keys (i - 1 + 1) d) (get_or keys (i - 1) d)) ≡ false = sorted (i - 1) d (omega arith) (omega arith) in
    let next : i - 1 + 1 ≡ i = omega arith in
    let not : is_lt (ordering_reverse (cmp (get_or keys (i - 1) d) (get_or keys i d))) ≡ false = ap is_lt (sym (o.antisymm (get_or keys i d) (get_or keys (i - 1) d))) ∙ ap (λ n. is_lt (cmp (get_or keys n d) (get_or keys (i - 1) d))) (sym next) ∙ up in
    let first : get_or keys before e ≡ get_or keys (i - 1) d = ap (λ n. get_or keys n e) b ∙ get_or_default keys (i - 1) e d (omega arith) in
    let second : get_or keys i f ≡ get_or keys i d = get_or_default keys i f d h in
    risen (cmp (get_or keys (i - 1) d) (get_or keys i d)) not number rise (r ∙ ap (λ x. from_bool (is_lt (cmp x (get_or keys i f)))) first ∙ ap (λ x. from_bool (is_lt (cmp (get_or keys (i - 1) d) x))) second))

pub climb_done : {K : Type 0} (cmp : K → K → Ordering) (keys : List K) (i : ℕ) (numbers : List ℕ) (number : ℕ) → Climbed cmp keys i numbers number → i ≡ length keys → Numbered cmp keys numbers
climb_done cmp keys i numbers number c e = record {
  all = c.all ∙ e;
  each = λ k l d hk hl. c.each k l d (omega (arith, e)) (omega (arith, e));
  low = λ k hk. omega (arith, c.top k (omega (arith, e)), c.small, e);
}
