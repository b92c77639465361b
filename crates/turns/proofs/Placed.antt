-- Numbers at the rows that they belong to.
use Rattle.std.proofs.Common.{◌≡◌, ℕ, ◌+◌, ◌<◌, List, [], ◌∷◌, length, get_or, set, refl, sym, ap, ◌∙◌, ⊎_elim, arith, below_more}
use Rattle.std.proofs.lemmas.Bool.{cases_eq}
use Rattle.std.proofs.lemmas.List.{get_or_default, get_or-set_same, get_or-set_other, length-set}
use Rattle.std.proofs.lemmas.List.Sorted.{All-permutation, Contains-permutation, length_permutation}
use Rattle.std.specs.List.Sorted.{IsPermutation}
use Rattle.std.specs.Ordering.{nat_cmp}
use Rattle.std.specs.declared.cmp.Ordering.{Ordering}
use Rattle.turns.specs.Keys.{AtRows, Numbered, WithRows, key_cmp}

-- the numbers of the first keys stand at their rows
pub record Placed {K : Type 0} (keys : List (K × ℕ)) (numbers : List ℕ) (i : ℕ) (placed : List ℕ) : Type 0 where
  pub all : length placed ≡ length keys
  pub each : (k : ℕ) (d : K × ℕ) → k < i → (j : ℕ) × (j < i) × ((get_or keys j d).1 ≡ (get_or keys k d).1) × (get_or placed (get_or keys k d).1 0 ≡ get_or numbers j 0)

some_key : {K : Type 0} (keys : List K) → 0 < length keys → K
some_key [] h = absurd (omega (arith, h))
some_key (k ∷ keys) h = k

module _ {K : Type 0} (cmp : K → K → Ordering) (keys : List K) (rows sorted : List (K × ℕ)) (numbers placed : List ℕ) (w : WithRows keys rows) (moved : IsPermutation rows sorted) (n : Numbered (key_cmp cmp) sorted numbers) (a : AtRows sorted numbers placed) where
  long : length sorted ≡ length keys
  long = length_permutation rows sorted moved ∙ w.all

  Own : K × ℕ → Type 0
  Own p = (d : K) → p.0 ≡ get_or keys p.1 d

  own : (k : ℕ) (e : K × ℕ) → k < length rows → Own (get_or rows k e)
  unfolding Own
  own k e l = λ d. ap (λ p. p.0) (w.each k e l) ∙ get_or_default keys k e.0 d (omega (arith, w.all)) ∙ ap (λ p. get_or keys p.1 d) (sym (w.each k e l))

  owned : (j : ℕ) (d : K × ℕ) → j < length sorted → Own (get_or sorted j d)
  owned j d h = All-permutation Own rows sorted moved own j d h

  -- the number of a row is that of a key which is its own
  found : (r : ℕ) (d : K) → r < length keys → (j : ℕ) × (j < length sorted) × (get_or placed r 0 ≡ get_or numbers j 0) × ((get_or sorted j (d, 0)).0 ≡ get_or keys r d)
  unfolding Own
  found r d h =
      let x : K × ℕ = (get_or keys r d, r) in
      let own_key : (get_or keys r x.0, r) ≡ x = ap (λ k. (k, r)) (get_or_default keys r x.0 d h) in
      let here : get_or rows r x ≡ x = w.each r x (omega (arith, w.all)) ∙ own_key in
      let at : (k : ℕ) × (k < length sorted) × (get_or sorted k x ≡ x) = Contains-permutation rows sorted x moved (r, omega (arith, w.all), here) in
      let entry : get_or sorted at.0 (d, 0) ≡ x = get_or_default sorted at.0 (d, 0) x at.1 ∙ at.2 in
      let row : (get_or sorted at.0 (d, 0)).1 ≡ r = ap (λ p. p.1) entry in
      let put = a.each at.0 (d, 0) at.1 in
      let put_row : (get_or sorted put.0 (d, 0)).1 ≡ r = put.2 ∙ row in
      let key : (get_or sorted put.0 (d, 0)).0 ≡ get_or keys (get_or sorted put.0 (d, 0)).1 d = owned put.0 (d, 0) put.1 d in
      let number : get_or placed r 0 ≡ get_or numbers put.0 0 = ap (λ k. get_or placed k 0) (sym row) ∙ put.3 in
      (put.0, put.1, number, key ∙ ap (λ k. get_or keys k d) put_row)

  pub numbered_rows : Numbered cmp keys placed
  numbered_rows = record {
    all = a.all ∙ long;
    each = λ r s d hr hs.
        let p = found r d hr in
        let q = found s d hs in
        let numbers_compare : nat_cmp (get_or placed r 0) (get_or placed s 0) ≡ nat_cmp (get_or numbers p.0 0) (get_or numbers q.0 0) = rw (p.2, q.2) refl in
        let keys_compare : cmp (get_or sorted p.0 (d, 0)).0 (get_or sorted q.0 (d, 0)).0 ≡ cmp (get_or keys r d) (get_or keys s d) = rw (p.3, q.3) refl in
        numbers_compare ∙ n.each p.0 q.0 (d, 0) p.1 q.1 ∙ keys_compare;
    low = λ r hr. let p = found r (some_key keys (omega arith)) hr in omega (arith, p.2, n.low p.0 p.1, long);
  }

pub rows_within : {K : Type 0} (keys : List K) (rows sorted : List (K × ℕ)) → WithRows keys rows → IsPermutation rows sorted → (k : ℕ) (d : K × ℕ) → k < length sorted → (get_or sorted k d).1 < length sorted
rows_within keys rows sorted w moved = All-permutation (λ p. p.1 < length sorted) rows sorted moved (λ k d h. omega (arith, ap (λ p. p.1) (w.each k d h), length_permutation rows sorted moved))

-- one number more at its row
pub placed_more : {K : Type 0} (keys : List (K × ℕ)) (numbers placed next : List ℕ) (i : ℕ) (d : K × ℕ) → i < length keys → (get_or keys i d).1 < length keys → Placed keys numbers i placed → next ≡ set placed (get_or keys i d).1 (get_or numbers i 0) → Placed keys numbers (i + 1) next
placed_more {K} keys numbers placed next i d h within c e =
    let row : ℕ = (get_or keys i d).1 in
    let own : (k : ℕ) → k ≡ row → get_or next k 0 ≡ get_or numbers i 0 = λ k s. ap (λ l. get_or l k 0) e ∙ ap (λ k. get_or (set placed row (get_or numbers i 0)) k 0) s ∙ get_or-set_same placed row (get_or numbers i 0) 0 (omega (arith, c.all)) in
    let Has : ℕ → Type 0 = λ k. (f : K × ℕ) → (j : ℕ) × (j < i + 1) × ((get_or keys j f).1 ≡ (get_or keys k f).1) × (get_or next (get_or keys k f).1 0 ≡ get_or numbers j 0) in
    record {
      all = ap length e ∙ length-set placed row (get_or numbers i 0) ∙ c.all;
      each = λ k f hk.
          below_more Has i
          (λ k hk f.
          ⊎_elim
          (λ (s : (get_or keys k f).1 ≡ row). (i, omega arith, ap (λ p. p.1) (get_or_default keys i f d h) ∙ sym s, own (get_or keys k f).1 s))
          (λ (s : (get_or keys k f).1 ≡ row → ⊥). let old = c.each k f hk in (old.0, omega (arith, old.1), old.2, ap (λ l. get_or l (get_or keys k f).1 0) e ∙ get_or-set_other placed row (get_or keys k f).1 (get_or numbers i 0) 0 s ∙ old.3))
          (cases_eq (get_or keys k f).1 row))
          (λ f. (i, omega arith, refl, own (get_or keys i f).1 (ap (λ p. p.1) (get_or_default keys i f d h))))
          k hk f;
    }

pub placed_done : {K : Type 0} (keys : List (K × ℕ)) (numbers placed : List ℕ) (i : ℕ) → Placed keys numbers i placed → i ≡ length keys → AtRows keys numbers placed
placed_done keys numbers placed i c e = record {
  all = c.all;
  each = λ k d h. let at = c.each k d (omega (arith, e)) in (at.0, omega (arith, at.1, e), at.2, at.3);
}
