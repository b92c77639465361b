-- The m-th present row ahead, by what was found for the row before.
use Rattle.std.proofs.Common.{◌≡◌, ℕ, ◌+◌, ◌-◌, ◌<◌, ◌≤◌, Bool, true, false, cond, ltb, List, length, is_some, Some, None, Option, sym, refl, ap, ◌∙◌, ⊎_elim, arith}
use Rattle.std.specs.List.{slice_get}
use Rattle.std.proofs.lemmas.Bool.{cases_Bool, cases_lt, cond-true, cond-false, ltb-true}
use Rattle.std.proofs.lemmas.Option.{cond_some, same_Some}
use Rattle.present.specs.declared.held.Held.{Held}
use Rattle.present.specs.Present.{at, ahead}
use Rattle.present.specs.Counting.{next_after, moved_on, up_to, found_ahead, FoundIs, source_ahead, Finding}
use Rattle.present.proofs.Ahead.{ahead-same, ahead-number, pass_null, pass_found, pass_none}
use Rattle.present.proofs.Counts.{ahead_none}
use Rattle.present.proofs.Parts.{past, ahead_part}

up_to_twice : (e : ℕ) (o : Option ℕ) → up_to e (up_to e o) ≡ up_to e o
up_to_twice e None = refl
up_to_twice e (Some r) = ⊎_elim
    (λ t. ap (up_to e) (cond-true (ltb r e) (Some r) None t))
    (λ n. ap (up_to e) (cond-false (ltb r e) (Some r) None n) ∙ sym (cond-false (ltb r e) (Some r) None n))
    (cases_Bool (ltb r e))

module _ {V : Type 0} (m : ℕ) (rows : List (Option V)) (f : ℕ → Option V) (i a : ℕ) (shown : i < a) (within : a ≤ length rows) (agree : (k : ℕ) → i ≤ k → k < a → f k ≡ at rows k) where
  -- the m-th present row after row i, of all rows
  abbrev all : Option ℕ
  all = slice_get (ahead (at rows) (i + 1) (length rows - (i + 1))) (m - 1)

  here : is_some (f i) ≡ is_some (at rows i)
  here = ap is_some (agree i (omega arith) shown)

  part : slice_get (ahead (at rows) (i + 1) (a - (i + 1))) (m - 1) ≡ up_to a all
  part = ahead_part (at rows) (i + 1) a (length rows) (m - 1) (omega arith) within

  null : (s : Option ℕ) → s ≡ slice_get (ahead (at rows) i (length rows - i)) (m - 1) → is_some (at rows i) ≡ false → s ≡ all
  null s h n = pass_null (at rows) i (length rows) (m - 1) s n h

  -- past a present row, the next one after the row found
  moved : (o : ℕ) → Some o ≡ slice_get (ahead (at rows) i (length rows - i)) (m - 1) → is_some (at rows i) ≡ true → up_to a (next_after f o a) ≡ up_to a all
  moved o h t =
      let from : i ≤ o = (ahead-number (at rows) i (length rows - i) (m - 1) o (sym h)).from in
      let next : Option ℕ = slice_get (ahead (at rows) (o + 1) (length rows - (o + 1))) 0 in
      let is : next ≡ all = pass_found (at rows) i (length rows) (m - 1) o next t h refl in
      ⊎_elim
      (λ lt. ap (λ (xs : List ℕ). up_to a (slice_get xs 0)) (ahead-same f (at rows) (o + 1) (a - (o + 1)) (λ x u v. agree x (omega arith) (omega arith))) ∙ (ap (up_to a) (ahead_part (at rows) (o + 1) a (length rows) 0 (omega arith) within) ∙ (up_to_twice a next ∙ ap (up_to a) is)))
      (λ ge. ap (up_to a) (ahead_none f (o + 1) a 0 (omega arith)) ∙ (past a next (λ r e. omega (arith, (ahead-number (at rows) (o + 1) (length rows - (o + 1)) 0 r e).from)) ∙ ap (up_to a) is))
      (cases_lt o a)

  none : None ≡ slice_get (ahead (at rows) i (length rows - i)) (m - 1) → None ≡ all
  none h = ⊎_elim (λ t. pass_none (at rows) i (length rows) (m - 1) t h) (λ n. null None h n) (cases_Bool (is_some (at rows i)))

  -- from a row found
  some : (o : ℕ) → Some o ≡ slice_get (ahead (at rows) i (length rows - i)) (m - 1) → up_to a (moved_on f (Some o) i a) ≡ up_to a all
  some o h = ⊎_elim
      (λ t. ap (up_to a) (cond-true (is_some (f i)) (next_after f o a) (Some o) (here ∙ t)) ∙ moved o h t)
      (λ n. ap (up_to a) (cond-false (is_some (f i)) (next_after f o a) (Some o) (here ∙ n)) ∙ ap (up_to a) (null (Some o) h n))
      (cases_Bool (is_some (at rows i)))

  found : (s : Option (Option ℕ)) → FoundIs s (slice_get (ahead (at rows) i (length rows - i)) (m - 1)) → found_ahead m s f i a ≡ slice_get (ahead (at rows) (i + 1) (a - (i + 1))) (m - 1)
  found None h = ap (λ (xs : List ℕ). slice_get xs (m - 1)) (ahead-same f (at rows) (i + 1) (a - (i + 1)) (λ x u v. agree x (omega arith) (omega arith)))
  found (Some None) h = sym (part ∙ ap (up_to a) (sym (none h)))
  found (Some (Some o)) h = some o h ∙ sym part

-- the source by what is held is that of the rows
pub found-source : {V : Type 0} (m : ℕ) (h : Held) (rows : List (Option V)) (f : ℕ → Option V) (i a : ℕ) → i < a → a ≤ length rows → ((k : ℕ) → i ≤ k → k < a → f k ≡ at rows k) → Finding m h rows i → source_ahead m h f i a ≡ slice_get (ahead (at rows) (i + 1) (a - (i + 1))) (m - 1)
found-source m h rows f i a l w agree d = found m rows f i a l w agree h.found d

up_below : (e : ℕ) (o : Option ℕ) (r : ℕ) → up_to e o ≡ Some r → (o ≡ Some r) × (r < e)
up_below e None r h = let z : ◌≡◌ {A = ℕ} 0 1 = cc in absurd (omega arith)
up_below e (Some x) r h = let c = cond_some (ltb x e) x r h in let is : x ≡ r = c.1 in (ap Some is, omega (arith, is, ltb-true x e c.0))

moved_low : {V : Type 0} (f : ℕ → Option V) (i a o r : ℕ) (b : Bool) → i ≤ o → cond b (next_after f o a) (Some o) ≡ Some r → i ≤ r
moved_low f i a o r true l h = omega (arith, (ahead-number f (o + 1) (a - (o + 1)) 0 r h).from)
moved_low f i a o r false l h = omega (arith, same_Some o r h)

between : {V : Type 0} (m : ℕ) (rows : List (Option V)) (f : ℕ → Option V) (i a r : ℕ) (s : Option (Option ℕ)) → i < a → FoundIs s (slice_get (ahead (at rows) i (length rows - i)) (m - 1)) → found_ahead m s f i a ≡ Some r → (i ≤ r) × (r < a)
between m rows f i a r None l d h = let n = ahead-number f (i + 1) (a - (i + 1)) (m - 1) r h in (omega (arith, n.from), omega (arith, n.below))
between m rows f i a r (Some None) l d h = let z : ◌≡◌ {A = ℕ} 0 1 = cc in absurd (omega arith)
between m rows f i a r (Some (Some o)) l d h =
    let u = up_below a (moved_on f (Some o) i a) r h in
    (moved_low f i a o r (is_some (f i)) (ahead-number (at rows) i (length rows - i) (m - 1) o (sym d)).from u.0, u.1)

-- it lies at or after the row, and before the end
pub found-between : {V : Type 0} (m : ℕ) (h : Held) (rows : List (Option V)) (f : ℕ → Option V) (i a : ℕ) → i < a → Finding m h rows i → (r : ℕ) → source_ahead m h f i a ≡ Some r → (i ≤ r) × (r < a)
found-between m h rows f i a l d r e = between m rows f i a r h.found l d e
