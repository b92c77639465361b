-- The opposite offset on turned rows.
use Rattle.std.proofs.Common.{◌≡◌, ℕ, zero, suc, ◌+◌, ◌-◌, ◌<◌, ◌≤◌, Bool, true, false, ltb, leb, List, reverse, length, ℤ, pos, negsuc, neg_ℤ, Some, None, Option, sym, refl, ap, ◌∙◌, ⊎_elim, arith, w64, SFits}
use Rattle.std.specs.Option.{option_map}
use Rattle.std.specs.List.{slice_get}
use Rattle.std.proofs.lemmas.List.{length-reverse, reverse-reverse}
use Rattle.std.proofs.lemmas.Option.{slice_get-map, slice_get_past}
use Rattle.std.proofs.lemmas.Bool.{cond-true, cond-false, cases_lt, lt-ltb, le-ltb, le-leb, lt-leb}
use Rattle.lead_lag.specs.declared.offset.Way.{Way}
use Rattle.lead_lag.specs.declared.offset.Way.TheVariants.{Own, Back, Ahead}
use Rattle.evaluator.specs.Arguments.{opposite}
use Rattle.evaluator.proofs.Opposites.{opposite_is}
use Rattle.lead_lag.specs.Offset.{way_of}
use Rattle.present.specs.Present.{at, before, ahead, after}
use Rattle.lead_lag.specs.Shift.{Proper, row_off, present_off, source_row, taken, shifted}
use Rattle.present.proofs.Counts.{number_of}
use Rattle.present.proofs.Turned.{turn, at_turned, before_turned, ahead_short}
use Rattle.lead_lag.specs.Fronts.{way_proper, source_below}

-- back becomes ahead
abbrev turned_way : Way → Way
turned_way Own = Own
turned_way (Back m) = Ahead m
turned_way (Ahead m) = Back m

negated_way : (z : ℤ) → way_of (neg_ℤ z) ≡ turned_way (way_of z)
negated_way (pos zero) = refl
negated_way (pos (suc n)) = refl
negated_way (negsuc n) = refl

-- respecting NULLs
off_turned : (way : Way) (n i : ℕ) → i < n → row_off (turned_way way) n (turn n i) ≡ option_map (turn n) (row_off way n i)
off_turned Own n i h = refl
off_turned (Back m) n i h = ⊎_elim
    (λ l. cond-false (ltb (turn n i + m) n) (Some (turn n i + m)) None (le-ltb (turn n i + m) n (omega arith)) ∙ sym (ap (option_map (turn n)) (cond-false (leb m i) (Some (i - m)) None (lt-leb m i l))))
    (λ l. let e : turn n i + m ≡ turn n (i - m) = omega arith in cond-true (ltb (turn n i + m) n) (Some (turn n i + m)) None (lt-ltb (turn n i + m) n (omega arith)) ∙ (ap Some e ∙ sym (ap (option_map (turn n)) (cond-true (leb m i) (Some (i - m)) None (le-leb m i l)))))
    (cases_lt i m)
off_turned (Ahead m) n i h = ⊎_elim
    (λ l. let e : turn n i - m ≡ turn n (i + m) = omega arith in cond-true (leb m (turn n i)) (Some (turn n i - m)) None (le-leb m (turn n i) (omega arith)) ∙ (ap Some e ∙ sym (ap (option_map (turn n)) (cond-true (ltb (i + m) n) (Some (i + m)) None (lt-ltb (i + m) n l)))))
    (λ l. cond-false (leb m (turn n i)) (Some (turn n i - m)) None (lt-leb m (turn n i) (omega arith)) ∙ sym (ap (option_map (turn n)) (cond-false (ltb (i + m) n) (Some (i + m)) None (le-ltb (i + m) n l))))
    (cases_lt (i + m) n)

-- turning twice changes nothing
turn_twice : (n : ℕ) (o : Option ℕ) → ((r : ℕ) → o ≡ Some r → r < n) → option_map (turn n) (option_map (turn n) o) ≡ o
turn_twice n None h = refl
turn_twice n (Some r) h = let l : r < n = h r refl in let e : turn n (turn n r) ≡ r = omega arith in ap Some e

module _ {V : Type 0} (cs : List (Option V)) (i : ℕ) (lt : i < length cs) where
  abbrev n : ℕ
  n = length cs

  long : length (reverse cs) ≡ n
  long = length-reverse cs

  -- looking back from row i is looking ahead from the row that it becomes
  back_turned : (k : ℕ) → slice_get (after (reverse cs) (turn n i)) k ≡ option_map (turn n) (slice_get (before (at cs) i) k)
  back_turned k =
      let a : turn n i + 1 ≡ n - i = omega arith in
      let b : length (reverse cs) - (turn n i + 1) ≡ i = omega (arith, long) in
      ap (λ (x : ℕ). slice_get (ahead (at (reverse cs)) (turn n i + 1) x) k) b ∙ (ap (λ (x : ℕ). slice_get (ahead (at (reverse cs)) x i) k) a ∙ (ap (λ (xs : List ℕ). slice_get xs k) (before_turned cs i (omega arith)) ∙ slice_get-map (turn n) (before (at cs) i) k))

-- looking ahead from row i is looking back from the row that it becomes
forward_turned : {V : Type 0} (cs : List (Option V)) (i : ℕ) → i < length cs → (k : ℕ) → slice_get (before (at (reverse cs)) (turn (length cs) i)) k ≡ option_map (turn (length cs)) (slice_get (after cs i) k)
forward_turned cs i lt k =
    let n = length cs in
    let ds = reverse cs in
    let long : length ds ≡ n = length-reverse cs in
    let j : ℕ = turn n i in
    let twice : reverse ds ≡ cs = reverse-reverse cs in
    let back : turn (length ds) j ≡ i = omega (arith, long) in
    let q : slice_get (after (reverse ds) (turn (length ds) j)) k ≡ option_map (turn (length ds)) (slice_get (before (at ds) j) k) = back_turned ds j (omega (arith, long)) k in
    let q2 : slice_get (after cs i) k ≡ option_map (turn n) (slice_get (before (at ds) j) k) = sym (ap (λ xs. slice_get (after xs (turn (length ds) j)) k) twice ∙ ap (λ (x : ℕ). slice_get (after cs x) k) back) ∙ (q ∙ ap (λ (x : ℕ). option_map (turn x) (slice_get (before (at ds) j) k)) long) in
    sym (ap (option_map (turn n)) q2 ∙ turn_twice n (slice_get (before (at ds) j) k) (λ r e. omega (arith, (number_of (at ds) j k r e).below)))

-- ignoring NULLs
present_turned : {V : Type 0} (way : Way) (cs : List (Option V)) (i : ℕ) → i < length cs → present_off (turned_way way) (reverse cs) (turn (length cs) i) ≡ option_map (turn (length cs)) (present_off way cs i)
present_turned Own cs i h = refl
present_turned (Back m) cs i h = back_turned cs i h (m - 1)
present_turned (Ahead m) cs i h = forward_turned cs i h (m - 1)

source-turned : {V : Type 0} (way : Way) (ignoring : Bool) (cs : List (Option V)) (i : ℕ) → i < length cs → source_row (turned_way way) ignoring (reverse cs) (turn (length cs) i) ≡ option_map (turn (length cs)) (source_row way ignoring cs i)
source-turned way false cs i h = ap (λ (x : ℕ). row_off (turned_way way) x (turn (length cs) i)) (length-reverse cs) ∙ off_turned way (length cs) i h
source-turned way true cs i h = present_turned way cs i h

taken-turned : {V : Type 0} (cs : List (Option V)) (d : Option V) (s : Option ℕ) → ((r : ℕ) → s ≡ Some r → r < length cs) → taken (at (reverse cs)) d (option_map (turn (length cs)) s) ≡ taken (at cs) d s
taken-turned cs d None h = refl
taken-turned cs d (Some r) h = at_turned cs r (h r refl)

way_turned : {V : Type 0} (way : Way) (ignoring : Bool) (d : Option V) (cs : List (Option V)) (i : ℕ) → Proper way → i < length cs → shifted (turned_way way) ignoring d (reverse cs) (turn (length cs) i) ≡ shifted way ignoring d cs i
way_turned way ignoring d cs i p h =
    ap (taken (at (reverse cs)) d) (source-turned way ignoring cs i h) ∙ taken-turned cs d (source_row way ignoring cs i) (source_below cs cs (record { shorter = omega arith; same = λ k l. refl }) i h way ignoring p)

-- an offset beyond every partition finds no row
far : {V : Type 0} (ignoring : Bool) (cs : List (Option V)) (i : ℕ) → length cs ≤ 16777216 → source_row (Ahead 9223372036854775808) ignoring cs i ≡ None
far false cs i l = cond-false (ltb (i + 9223372036854775808) (length cs)) _ _ (le-ltb (i + 9223372036854775808) (length cs) (omega arith))
far true cs i l = slice_get_past (after cs i) 9223372036854775807 (omega (arith, ahead_short (at cs) (i + 1) (length cs - (i + 1))))

-- the opposite offset gives at the row that row i becomes what the offset gives at row i
pub shifted-turned : {V : Type 0} (z : ℤ) (ignoring : Bool) (d : Option V) (cs : List (Option V)) (i : ℕ) → SFits w64 z → i < length cs → length cs ≤ 16777216 → shifted (way_of (opposite z)) ignoring d (reverse cs) (length cs - 1 - i) ≡ shifted (way_of z) ignoring d cs i
shifted-turned z ignoring d cs i f h l = ⊎_elim
    (λ e. ap (λ (y : ℤ). shifted (way_of y) ignoring d (reverse cs) (turn (length cs) i)) e ∙ (ap (λ (w : Way). shifted w ignoring d (reverse cs) (turn (length cs) i)) (negated_way z) ∙ way_turned (way_of z) ignoring d cs i (way_proper z) h))
    (λ p.
    let a : shifted (way_of (opposite z)) ignoring d (reverse cs) (turn (length cs) i) ≡ d = ap (λ (y : ℤ). shifted (way_of y) ignoring d (reverse cs) (turn (length cs) i)) (p.1 ∙ p.0) ∙ ap (taken (at (reverse cs)) d) (far ignoring (reverse cs) (turn (length cs) i) (omega (arith, length-reverse cs))) in
    let b : shifted (way_of z) ignoring d cs i ≡ d = ap (λ (y : ℤ). shifted (way_of y) ignoring d cs i) p.0 ∙ ap (taken (at cs) d) (far ignoring cs i l) in
    a ∙ sym b)
    (opposite_is z f)
