-- The present rows ahead of a row: which they are, and what they depend on.
use Rattle.std.proofs.Common.{◌≡◌, ℕ, zero, suc, ◌+◌, ◌-◌, ◌<◌, ◌≤◌, Bool, true, false, cond, leb, List, [], ◌∷◌, length, get_or, is_some, Some, None, Option, sym, refl, ap, ◌∙◌, subst, ⊎_elim, add-one, arith}
use Rattle.std.specs.List.{slice_get}
use Rattle.std.proofs.lemmas.Bool.{cases_lt, le-leb, lt-leb}
use Rattle.std.proofs.lemmas.Option.{same_Some, slice_get_past, slice_get-get_or}
use Rattle.present.specs.Present.{before, ahead}
use Rattle.present.proofs.Counts.{ahead_past, ahead_on, ahead_none, cond-length, count_suc}

pub count_more : {V : Type 0} (f : ℕ → Option V) (i : ℕ) → length (before f (i + 1)) ≡ length (before f i) + cond (is_some (f i)) 1 0
count_more f i = ap (λ (n : ℕ). length (before f n)) (add-one i) ∙ count_suc f i

-- the rows ahead add to the count of those before
pub ahead-count : {V : Type 0} (f : ℕ → Option V) (k n : ℕ) → length (before f (k + n)) ≡ length (before f k) + length (ahead f k n)
ahead-count f k zero = let e : k + 0 ≡ k = omega arith in omega (arith, ap (λ (x : ℕ). length (before f x)) e)
ahead-count f k (suc n) =
    let e : k + suc n ≡ (k + 1) + n = omega arith in
    omega (arith, ap (λ (x : ℕ). length (before f x)) e, ahead-count f (k + 1) n, count_more f k, cond-length (is_some (f k)) k (ahead f (k + 1) n))

-- row r is number j, from 0, of the present rows among the n rows from k on
pub record AheadNumber {V : Type 0} (f : ℕ → Option V) (k n j r : ℕ) : Type 0 where
  pub from : k ≤ r
  pub below : r < k + n
  pub present : is_some (f r) ≡ true
  pub counts : length (before f r) ≡ length (before f k) + j

ahead_step : {V : Type 0} (f : ℕ → Option V) (k n j r : ℕ) (b : Bool) → is_some (f k) ≡ b → ((x : ℕ) → slice_get (ahead f (k + 1) n) x ≡ Some r → AheadNumber f (k + 1) n x r) → slice_get (cond b (k ∷ ahead f (k + 1) n) (ahead f (k + 1) n)) j ≡ Some r → AheadNumber f k (suc n) j r
ahead_step f k n zero r true e ih h =
    let s : k ≡ r = same_Some k r h in
    subst (λ (x : ℕ). AheadNumber f k (suc n) 0 x) s (record { from = omega arith; below = omega arith; present = e; counts = omega arith })
ahead_step f k n (suc j) r true e ih h =
    let d = ih j h in
    record { from = omega arith; below = omega arith; present = d.present; counts = omega (arith, d.counts, count_more f k, ap (λ (x : Bool). cond {A = ℕ} x 1 0) e) }
ahead_step f k n j r false e ih h =
    let d = ih j h in
    record { from = omega arith; below = omega arith; present = d.present; counts = omega (arith, d.counts, count_more f k, ap (λ (x : Bool). cond {A = ℕ} x 1 0) e) }

pub ahead-number : {V : Type 0} (f : ℕ → Option V) (k n j r : ℕ) → slice_get (ahead f k n) j ≡ Some r → AheadNumber f k n j r
ahead-number f k zero j r h = let z : ◌≡◌ {A = ℕ} 0 1 = cc in absurd (omega arith)
ahead-number f k (suc n) j r h = ahead_step f k n j r (is_some (f k)) refl (λ x e. ahead-number f (k + 1) n x r e) h

-- more rows keep those found
longer_step : (b : Bool) (k : ℕ) (xs ys : List ℕ) (j r : ℕ) → ((x : ℕ) → slice_get xs x ≡ Some r → slice_get ys x ≡ Some r) → slice_get (cond b (k ∷ xs) xs) j ≡ Some r → slice_get (cond b (k ∷ ys) ys) j ≡ Some r
longer_step true k xs ys zero r ih h = h
longer_step true k xs ys (suc j) r ih h = ih j h
longer_step false k xs ys j r ih h = ih j h

pub ahead_longer : {V : Type 0} (f : ℕ → Option V) (k n n' j r : ℕ) → n ≤ n' → slice_get (ahead f k n) j ≡ Some r → slice_get (ahead f k n') j ≡ Some r
ahead_longer f k zero n' j r l h = let z : ◌≡◌ {A = ℕ} 0 1 = cc in absurd (omega arith)
ahead_longer f k (suc n) zero j r l h = absurd (omega arith)
ahead_longer f k (suc n) (suc n') j r l h = longer_step (is_some (f k)) k (ahead f (k + 1) n) (ahead f (k + 1) n') j r (λ x e. ahead_longer f (k + 1) n n' x r (omega arith) e) h

-- they depend on the cells of these rows alone
pub before_same : {V : Type 0} (f g : ℕ → Option V) (i : ℕ) → ((k : ℕ) → k < i → f k ≡ g k) → before f i ≡ before g i
before_same f g zero h = refl
before_same f g (suc n) h =
    let e : f n ≡ g n = h n (omega arith) in
    let t : before f n ≡ before g n = before_same f g n (λ k l. h k (omega arith)) in
    ap (λ x. cond (is_some x) (n ∷ before f n) (before f n)) e ∙ ap (λ (xs : List ℕ). cond (is_some (g n)) (n ∷ xs) xs) t

pub ahead-same : {V : Type 0} (f g : ℕ → Option V) (k n : ℕ) → ((x : ℕ) → k ≤ x → x < k + n → f x ≡ g x) → ahead f k n ≡ ahead g k n
ahead-same f g k zero h = refl
ahead-same f g k (suc n) h =
    let e : f k ≡ g k = h k (omega arith) (omega arith) in
    let t : ahead f (k + 1) n ≡ ahead g (k + 1) n = ahead-same f g (k + 1) n (λ x l m. h x (omega arith) (omega arith)) in
    ap (λ y. cond (is_some y) (k ∷ ahead f (k + 1) n) (ahead f (k + 1) n)) e ∙ ap (λ (xs : List ℕ). cond (is_some (g k)) (k ∷ xs) xs) t

-- a list has each number below its length
pub nth-within : (xs : List ℕ) (j : ℕ) → j < length xs → (r : ℕ) × (slice_get xs j ≡ Some r)
nth-within xs j h = (get_or xs j 0, slice_get-get_or xs j 0 h)

pub nth_has : (xs : List ℕ) (m : ℕ) → 0 < m → is_some (slice_get xs (m - 1)) ≡ leb m (length xs)
nth_has xs m p = ⊎_elim (λ lt. let d = nth-within xs (m - 1) (omega arith) in ap is_some d.1 ∙ sym (le-leb m (length xs) (omega arith))) (λ ge. ap is_some (slice_get_past xs (m - 1) (omega arith)) ∙ sym (lt-leb m (length xs) (omega arith))) (cases_lt (m - 1) (length xs))

-- the present row after a present row is the next of them
follow_step : {V : Type 0} (f : ℕ → Option V) (k l j o : ℕ) (b : Bool) → ((x : ℕ) → slice_get (ahead f (k + 1) l) x ≡ Some o → slice_get (ahead f (k + 1) l) (suc x) ≡ slice_get (ahead f (o + 1) (k + suc l - (o + 1))) 0) → slice_get (cond b (k ∷ ahead f (k + 1) l) (ahead f (k + 1) l)) j ≡ Some o → slice_get (cond b (k ∷ ahead f (k + 1) l) (ahead f (k + 1) l)) (suc j) ≡ slice_get (ahead f (o + 1) (k + suc l - (o + 1))) 0
follow_step f k l zero o true ih h =
    let s : k ≡ o = same_Some k o h in
    let e : k + suc l - (k + 1) ≡ l = omega arith in
    subst (λ (x : ℕ). slice_get (ahead f (k + 1) l) 0 ≡ slice_get (ahead f (x + 1) (k + suc l - (x + 1))) 0) s (sym (ap (λ (n : ℕ). slice_get (ahead f (k + 1) n) 0) e))
follow_step f k l (suc j) o true ih h = ih j h
follow_step f k l j o false ih h = ih j h

follow : {V : Type 0} (f : ℕ → Option V) (k l j o : ℕ) → slice_get (ahead f k l) j ≡ Some o → slice_get (ahead f k l) (suc j) ≡ slice_get (ahead f (o + 1) (k + l - (o + 1))) 0
follow f k zero j o h = let z : ◌≡◌ {A = ℕ} 0 1 = cc in absurd (omega arith)
follow f k (suc l) j o h = let e : k + 1 + l ≡ k + suc l = omega arith in follow_step f k l j o (is_some (f k)) (λ x q. follow f (k + 1) l x o q ∙ ap (λ (n : ℕ). slice_get (ahead f (o + 1) (n - (o + 1))) 0) e) h

nth_more : (xs : List ℕ) (j : ℕ) → slice_get xs j ≡ None → slice_get xs (suc j) ≡ None
nth_more [] j h = refl
nth_more (x ∷ xs) zero h = let z : ◌≡◌ {A = ℕ} 0 1 = cc in absurd (omega arith)
nth_more (x ∷ xs) (suc j) h = nth_more xs j h

-- past row k, the row of number j among those from row k on becomes that among those from the next row on
module _ {V : Type 0} (f : ℕ → Option V) (k n j : ℕ) where
  pub pass_null : (s : Option ℕ) → is_some (f k) ≡ false → s ≡ slice_get (ahead f k (n - k)) j → s ≡ slice_get (ahead f (k + 1) (n - (k + 1))) j
  pass_null s e h = h ∙ ⊎_elim
      (λ lt. ahead_past f k n j lt e)
      (λ ge. ahead_none f k n j ge ∙ sym (ahead_none f (k + 1) n j (omega arith)))
      (cases_lt k n)

  pub pass_found : (o : ℕ) (r : Option ℕ) → is_some (f k) ≡ true → Some o ≡ slice_get (ahead f k (n - k)) j → r ≡ slice_get (ahead f (o + 1) (n - (o + 1))) 0 → r ≡ slice_get (ahead f (k + 1) (n - (k + 1))) j
  pass_found o r e h q = ⊎_elim
      (λ lt. let s : k + (n - k) ≡ n = omega arith in q ∙ (ap (λ (x : ℕ). slice_get (ahead f (o + 1) (x - (o + 1))) 0) (sym s) ∙ (sym (follow f k (n - k) j o (sym h)) ∙ ahead_on f k n j lt e)))
      (λ ge. let w : slice_get (ahead f k (n - k)) j ≡ None = ahead_none f k n j ge in let z : ◌≡◌ {A = ℕ} 0 1 = cc in absurd (omega arith))
      (cases_lt k n)

  pub pass_none : is_some (f k) ≡ true → None ≡ slice_get (ahead f k (n - k)) j → None ≡ slice_get (ahead f (k + 1) (n - (k + 1))) j
  pass_none e h = ⊎_elim
      (λ lt. sym (sym (ahead_on f k n j lt e) ∙ nth_more (ahead f k (n - k)) j (sym h)))
      (λ ge. sym (ahead_none f (k + 1) n j (omega arith)))
      (cases_lt k n)
