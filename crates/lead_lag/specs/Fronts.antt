-- What the first rows of a partition tell of the source row and the answer.
use Rattle.std.specs.Prelude.{◌≡◌, ℕ, ℤ, pos, negsuc, zero, suc, ◌+◌, ◌-◌, ◌<◌, ◌≤◌, Bool, true, false, List, ◌++◌, length, take, Some, None, Option, nat_le, nat_lt, refl}
use Rattle.std.proofs.Common.{sym, ◌∙◌, ap, arith}
use Rattle.std.specs.List.{slice_get}
use Rattle.std.proofs.lemmas.List.{length-take, length-append, get_or-take, get_or_append_left}
use Rattle.std.proofs.lemmas.Option.{cond_some, same_Some, slice_get_within}
use Rattle.std.proofs.lemmas.Bool.{cond-true, lt-ltb, ltb-true, leb-true, le-leb}
use Rattle.lead_lag.specs.declared.offset.Way.{Way}
use Rattle.lead_lag.specs.declared.offset.Way.TheVariants.{Own, Back, Ahead}
use Rattle.present.specs.Present.{at, ahead, after}
use Rattle.lead_lag.specs.Offset.{way_of}
use Rattle.lead_lag.specs.Shift.{Proper, source_row, taken, shifted, reaches}
use Rattle.present.proofs.Counts.{number_of}
use Rattle.present.proofs.Ahead.{ahead-number, ahead_longer, ahead-same, before_same, nth-within}

-- xs are first rows of rows
pub record Front {V : Type 0} (xs rows : List (Option V)) : Type 0 where
  pub shorter : length xs ≤ length rows
  pub same : (k : ℕ) → k < length xs → at xs k ≡ at rows k

pub front_take : {V : Type 0} (a : ℕ) (rows : List (Option V)) → Front (take a rows) rows
front_take a rows = record {
  shorter = omega (arith, length-take a rows);
  same = λ k h. get_or-take a rows k None (omega (arith, length-take a rows));
}

pub front_append : {V : Type 0} (rows more : List (Option V)) → Front rows (rows ++ more)
front_append rows more = record {
  shorter = omega (arith, length-append rows more);
  same = λ k h. sym (get_or_append_left rows more None k h);
}

-- the way of an offset is proper
pub way_proper : (z : ℤ) → Proper (way_of z)
way_proper (pos zero) = tt
way_proper (pos (suc n)) = omega arith
way_proper (negsuc n) = omega arith

-- cells that agree on the source row
pub taken_same : {V : Type 0} (f g : ℕ → Option V) (d : Option V) (s : Option ℕ) → ((r : ℕ) → s ≡ Some r → f r ≡ g r) → taken f d s ≡ taken g d s
taken_same f g d None h = refl
taken_same f g d (Some r) h = h r refl

module _ {V : Type 0} (xs rows : List (Option V)) (fr : Front xs rows) (i : ℕ) (lt : i < length xs) where
  -- present rows after row i that the first rows have
  after_front : (j r : ℕ) → slice_get (after xs i) j ≡ Some r → slice_get (after rows i) j ≡ Some r
  after_front j r h =
      let s : ahead (at rows) (i + 1) (length xs - (i + 1)) ≡ after xs i = sym (ahead-same (at xs) (at rows) (i + 1) (length xs - (i + 1)) (λ x l u. fr.same x (omega arith))) in
      ahead_longer (at rows) (i + 1) (length xs - (i + 1)) (length rows - (i + 1)) j r (omega (arith, fr.shorter)) (ap (λ (ys : List ℕ). slice_get ys j) s ∙ h)

  -- the source row is the same, and among the first rows
  pub source_front : (way : Way) (ignoring : Bool) → Proper way → reaches way ignoring xs i ≡ true → source_row way ignoring xs i ≡ source_row way ignoring rows i
  source_front Own false p h = refl
  source_front Own true p h = refl
  source_front (Back m) false p h = refl
  source_front (Back m) true p h = ap (λ (ys : List ℕ). slice_get ys (m - 1)) (before_same (at xs) (at rows) i (λ k l. fr.same k (omega arith)))
  source_front (Ahead m) false p h =
      let a : i + m < length xs = ltb-true (i + m) (length xs) h in
      cond-true (nat_lt (i + m) (length xs)) (Some (i + m)) None h ∙ sym (cond-true (nat_lt (i + m) (length rows)) (Some (i + m)) None (lt-ltb (i + m) (length rows) (omega (arith, fr.shorter))))
  source_front (Ahead m) true p h =
      let l : m ≤ length (after xs i) = leb-true m (length (after xs i)) h in
      let d = nth-within (after xs i) (m - 1) (omega arith) in
      d.1 ∙ sym (after_front (m - 1) d.0 d.1)

  pub source_below : (way : Way) (ignoring : Bool) → Proper way → (r : ℕ) → source_row way ignoring xs i ≡ Some r → r < length xs
  source_below Own false p r h = omega (arith, same_Some i r h)
  source_below Own true p r h = omega (arith, same_Some i r h)
  source_below (Back m) false p r h = omega (arith, (cond_some (nat_le m i) (i - m) r h).1)
  source_below (Back m) true p r h = omega (arith, (number_of (at xs) i (m - 1) r h).below)
  source_below (Ahead m) false p r h = let c = cond_some (nat_lt (i + m) (length xs)) (i + m) r h in omega (arith, c.1, ltb-true (i + m) (length xs) c.0)
  source_below (Ahead m) true p r h = omega (arith, (ahead-number (at xs) (i + 1) (length xs - (i + 1)) (m - 1) r h).below)

  pub reaches_front : (way : Way) (ignoring : Bool) → Proper way → reaches way ignoring xs i ≡ true → reaches way ignoring rows i ≡ true
  reaches_front Own ignoring p h = refl
  reaches_front (Back m) ignoring p h = refl
  reaches_front (Ahead m) false p h = lt-ltb (i + m) (length rows) (omega (arith, fr.shorter, ltb-true (i + m) (length xs) h))
  reaches_front (Ahead m) true p h =
      let l : m ≤ length (after xs i) = leb-true m (length (after xs i)) h in
      let d = nth-within (after xs i) (m - 1) (omega arith) in
      le-leb m (length (after rows i)) (omega (arith, slice_get_within (after rows i) (m - 1) d.0 (after_front (m - 1) d.0 d.1)))

  -- so the answer is the same
  pub answer_front : (way : Way) (ignoring : Bool) (d : Option V) → Proper way → reaches way ignoring xs i ≡ true → shifted way ignoring d xs i ≡ shifted way ignoring d rows i
  answer_front way ignoring d p h =
      taken_same (at xs) (at rows) d (source_row way ignoring xs i) (λ r q. fr.same r (source_below way ignoring p r q)) ∙ ap (taken (at rows) d) (source_front way ignoring p h)
