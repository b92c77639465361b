-- What is held looking back past m present rows, one row on.
use Rattle.std.proofs.Common.{◌≡◌, ℕ, suc, ◌+◌, ◌-◌, ◌<◌, ◌≤◌, Bool, true, false, cond, List, ◌∷◌, length, is_some, Some, None, Option, unwrap_or, sym, refl, ap, ◌∙◌, subst, ⊎_elim, add-one, arith}
use Rattle.std.specs.List.{slice_get}
use Rattle.std.proofs.lemmas.Option.{slice_get_past, slice_get_within}
use Rattle.std.proofs.lemmas.Bool.{cases_Bool, cases_lt, cond-true}
use Rattle.std.proofs.lemmas.Bool.Decides.{nat_tests}
use Rattle.present.specs.declared.held.Held.{Held}
use Rattle.present.specs.declared.held.Counted.{Counted}
use Rattle.present.specs.Present.{at, before, ahead}
use Rattle.present.specs.Counting.{start, CountedOf, Counting, held_mark, oldest_of, next_present, counted, counted_row, oldest_source}
use Rattle.present.proofs.Counts.{Number, number_of, found_by, count_present, count_grows}
use Rattle.present.proofs.Ahead.{ahead-number, ahead-count, ahead-same, nth-within, count_more}

-- nothing is counted at row 0
pub start_counts : {V : Type 0} (m : ℕ) (rows : List (Option V)) → Counting m start rows 0
start_counts m rows = refl

-- once m are counted, the oldest is the m-th of the rows
oldest-is : (m : ℕ) (o : Option Counted) (xs : List ℕ) → 0 < m → CountedOf m o xs → oldest_of m o ≡ slice_get xs (m - 1)
oldest-is m None xs p c = sym (ap (λ (ys : List ℕ). slice_get ys (m - 1)) c)
oldest-is m (Some a) xs p c = grind (arith, nat_tests, c.0, c.1, slice_get_past xs (m - 1))

-- the source row, by what is held
pub counted-source : {V : Type 0} (m : ℕ) (h : Held) (rows : List (Option V)) (i : ℕ) → 0 < m → Counting m h rows i → oldest_source m h ≡ slice_get (before (at rows) i) (m - 1)
counted-source m h rows i p c = oldest-is m h.counted (before (at rows) i) p c

-- looking back with NULLs ignored: what is held says what the mark is
pub counted-mark : {V : Type 0} (m : ℕ) (h : Held) (rows : List (Option V)) (i : ℕ) → 0 < m → Counting m h rows i → held_mark m h ≡ unwrap_or (slice_get (before (at rows) i) (m - 1)) 0
counted-mark m h rows i p c = ap (λ (o : Option ℕ). unwrap_or o 0) (counted-source m h rows i p c)

-- the mark lies at or before the row
pub mark_low : {V : Type 0} (m : ℕ) (h : Held) (rows : List (Option V)) (i : ℕ) → 0 < m → Counting m h rows i → held_mark m h ≤ i
mark_low m h rows i p c =
    let low : (r : ℕ) → slice_get (before (at rows) i) (m - 1) ≡ Some r → r + 1 ≤ i = λ r e. omega (arith, (number_of (at rows) i (m - 1) r e).below) in
    grind (arith, low, counted-mark m h rows i p c)

module _ {V : Type 0} (m : ℕ) (rows : List (Option V)) (i : ℕ) (pos_m : 0 < m) (here : is_some (at rows i) ≡ true) where
  abbrev g : ℕ → Option V
  g = at rows

  on : before g (suc i) ≡ i ∷ before g i
  on = cond-true (is_some (g i)) (i ∷ before g i) (before g i) here

  -- one more row counted
  grown : (a : Counted) → CountedOf m (Some a) (before g i) → a.count < m → CountedOf m (Some (record { count = a.count + 1; oldest = a.oldest })) (before g (suc i))
  grown a c lt = grind (arith, on, c.0, c.1, count_present g i here, slice_get_within (before g i) (a.count - 1) a.oldest c.1)

  -- the oldest moves to the next present row
  moved : (f : ℕ → Option V) (a : Counted) → CountedOf m (Some a) (before g i) → m ≤ a.count → ((k : ℕ) → a.oldest ≤ k → k ≤ i → f k ≡ g k) → CountedOf m (Some (record { count = a.count; oldest = next_present f a.oldest (i + 1) })) (before g (suc i))
  moved f a c ge agree =
      let o : ℕ = a.oldest in
      let l : ℕ = i + 1 - (o + 1) in
      let d : Number g i (a.count - 1) o = number_of g i (a.count - 1) o c.1 in
      let same : ahead f (o + 1) l ≡ ahead g (o + 1) l = ahead-same f g (o + 1) l (λ x u v. agree x (omega arith) (omega (arith, d.below))) in
      let past : length (before g (o + 1)) ≡ length (before g o) + 1 = count_more g o ∙ ap (λ (b : Bool). length (before g o) + cond b 1 0) d.present in
      let ends : (o + 1) + l ≡ suc i = omega (arith, d.below) in
      let some = nth-within (ahead g (o + 1) l) 0 (omega (arith, ahead-count g (o + 1) l, ap (λ (x : ℕ). length (before g x)) ends, count_present g i here, count_grows g (o + 1) i (omega (arith, d.below)))) in
      let r : ℕ = some.0 in
      let n = ahead-number g (o + 1) l 0 r some.1 in
      let new : Number g (suc i) (a.count - 1) r = record { below = omega (arith, n.below, d.below); present = n.present; counts = omega (arith, n.counts, d.counts, past, count_present g i here) } in
      let is : next_present f o (i + 1) ≡ r = ap (λ (xs : List ℕ). unwrap_or (slice_get xs 0) o) same ∙ ap (λ (x : Option ℕ). unwrap_or x o) some.1 in
      (omega (arith, c.0, count_present g i here), found_by g (suc i) (a.count - 1) r new ∙ ap Some (sym is))

  -- a present row is counted, by cells that agree from the oldest on
  more : (f : ℕ → Option V) (o : Option Counted) → CountedOf m o (before g i) → ((k : ℕ) → unwrap_or (oldest_of m o) 0 ≤ k → k ≤ i → f k ≡ g k) → CountedOf m (Some (counted m o f i (i + 1))) (before g (suc i))
  more f None c agree = (omega (arith, count_present g i here, ap length c), ap (λ (xs : List ℕ). slice_get xs 0) on)
  more f (Some a) c agree =
      ⊎_elim
      (λ lt. grind (arith, nat_tests, lt, grown a c lt))
      (λ ge. grind (arith, nat_tests, ge, moved f a c ge (λ k u v. agree k (grind (arith, nat_tests, u, ge)) v)))
      (cases_lt a.count m)

counts_on : {V : Type 0} (m : ℕ) (h : Held) (rows : List (Option V)) (i : ℕ) (f : ℕ → Option V) → 0 < m → Counting m h rows i → ((k : ℕ) → held_mark m h ≤ k → k ≤ i → f k ≡ at rows k) → Counting m (counted_row m h f i (i + 1)) rows (suc i)
counts_on m h rows i f p c agree =
    let same : is_some (f i) ≡ is_some (at rows i) = ap is_some (agree i (mark_low m h rows i p c) (omega arith)) in
    ⊎_elim
    (λ t. grind (arith, same, t, more m rows i p t f h.counted c agree))
    (λ n. grind (arith, same, n, c))
    (cases_Bool (is_some (at rows i)))

-- one row on, by cells that agree with the rows from the mark to row i
pub counts_next : {V : Type 0} (m : ℕ) (h : Held) (rows : List (Option V)) (i : ℕ) (f : ℕ → Option V) → 0 < m → Counting m h rows i → ((k : ℕ) → held_mark m h ≤ k → k ≤ i → f k ≡ at rows k) → Counting m (counted_row m h f i (i + 1)) rows (i + 1)
counts_next m h rows i f p c agree = subst (λ (n : ℕ). Counting m (counted_row m h f i (i + 1)) rows n) (sym (add-one i)) (counts_on m h rows i f p c agree)

-- the mark never falls, whatever is shown
rises : {V : Type 0} (f : ℕ → Option V) (o n : ℕ) → o ≤ next_present f o n
rises f o n =
    let from : (r : ℕ) → slice_get (ahead f (o + 1) (n - (o + 1))) 0 ≡ Some r → o + 1 ≤ r = λ r e. (ahead-number f (o + 1) (n - (o + 1)) 0 r e).from in
    grind (arith, from)

grows : {V : Type 0} (m : ℕ) (f : ℕ → Option V) (i n : ℕ) (o : Option Counted) (b : Bool) → unwrap_or (oldest_of m o) 0 ≤ unwrap_or (oldest_of m (cond b (Some (counted m o f i n)) o)) 0
grows m f i n None b = omega arith
grows m f i n (Some a) false = omega arith
grows m f i n (Some a) true = grind (arith, nat_tests, rises f a.oldest n)

pub mark_grows : {V : Type 0} (m : ℕ) (h : Held) (f : ℕ → Option V) (i n : ℕ) → held_mark m h ≤ held_mark m (counted_row m h f i n)
mark_grows m h f i n = grows m f i n h.counted (is_some (f i))
