-- A request past the checks, on a run that stands at a partition whose frames are made to begin at 0 where the run is so set.
use Rattle.std.proofs.Common.{◌≡◌, ℕ, zero, suc, ◌+◌, ◌<◌, ◌≤◌, Bool, true, false, T, List, length, take, Some, None, Ok, Err, Option, Result, sym, refl, ap, ◌∙◌, subst, ⊎_elim, arith, eqb→eq}
use Rattle.std.proofs.lemmas.Bool.{cases_lt}
use Rattle.std.proofs.lemmas.Bool.Decides.{nat_tests}
use Rattle.column.specs.declared.fault.Fault.{Fault}
use Rattle.column.specs.declared.fault.Fault.TheVariants.{TooEarly}
use Rattle.column.specs.declared.column.Window.{Window}
use Rattle.run.specs.declared.progress.Progress.{Progress}
use Rattle.evaluator.specs.Meaning.{Partition}
use Rattle.partition.specs.Table.{Frame}
use Rattle.run.specs.Shown.{Shows, Framed, Ordered, shown, end_of, frame_at, frame_before, based_frames, based}
use Rattle.evaluator.specs.Meaning.{Meaning, Laws, settles}
use Rattle.run.specs.Rows.{Asks, Given}
use Rattle.column.specs.Refusal.{passes}
use Rattle.run.specs.Table.{refusal, is_total}
use Rattle.run.specs.Run.{refusal_at, frame_or_none, OutcomeBy, Requested}
use Rattle.run.proofs.Zeroed.{based_framed, based_ordered, at-based}

-- what the checks say of a wanted frame
pub record Fits (b : Progress) (g : Frame) : Type 0 where
  pub proper : g.0 ≤ g.1
  pub start : b.last.0 ≤ g.0
  pub end : b.last.1 ≤ g.1
  pub zero : T b.from_zero → g.0 ≡ 0

pub passed-frame : (b : Progress) (t : Option ℕ) (mark begin values marks : ℕ) (g : Frame) → refusal true b t mark begin values marks (Some g) ≡ None → Fits b g
passed-frame b t mark begin values marks g n = record {
  proper = grind (arith, nat_tests);
  start = grind (arith, nat_tests);
  end = grind (arith, nat_tests);
  zero = λ z. grind (arith, nat_tests);
}

-- what a run's progress say of a partition that its history shows
pub record Kept {V : Type 0} (p : Partition V) (b : Progress) (t : Option ℕ) : Type 0 where
  pub last : b.last ≡ frame_before p b.next
  pub ordered : Ordered p b.next
  pub zero : T b.from_zero → (k : ℕ) → k < b.next → k < length p.frames → (frame_at p k).0 ≡ 0
  pub sized : (n : ℕ) → t ≡ Some n → length p.rows ≡ n

before_above : {V : Type 0} (p : Partition V) (n : ℕ) (l : Frame) → l ≡ frame_before p n → Ordered p n → (j : ℕ) → j < n → n < length p.frames → ((frame_at p j).0 ≤ l.0) × ((frame_at p j).1 ≤ l.1)
before_above p zero l e o j h i = absurd (omega arith)
before_above p (suc n) l e o j h i =
    (omega (arith, ap (λ (f : Frame). f.0) e, o.starts j n (omega arith) (omega arith) (omega arith)), omega (arith, ap (λ (f : Frame). f.1) e, o.ends j n (omega arith) (omega arith) (omega arith)))

-- one frame more that may come next
pub ordered_more : {V : Type 0} (p : Partition V) (b : Progress) (t : Option ℕ) → Kept p b t → (b.next < length p.frames → Fits b (frame_at p b.next)) → Ordered p (b.next + 1)
ordered_more p b t q new = record {
  proper = λ k h i. ⊎_elim (λ lt. q.ordered.proper k lt i) (λ ge. let e : b.next ≡ k = omega arith in subst (λ (n : ℕ). (frame_at p n).0 ≤ (frame_at p n).1) e (new (omega arith)).proper) (cases_lt k b.next);
  starts = λ j k jk h i. ⊎_elim (λ lt. q.ordered.starts j k jk lt i) (λ ge. let e : b.next ≡ k = omega arith in subst (λ (n : ℕ). (frame_at p j).0 ≤ (frame_at p n).0) e (⊎_elim (λ jn. omega (arith, before_above p b.next b.last q.last q.ordered j jn (omega arith), (new (omega arith)).start)) (λ jn. let d : b.next ≡ j = omega arith in subst (λ (n : ℕ). (frame_at p n).0 ≤ (frame_at p b.next).0) d (omega arith)) (cases_lt j b.next))) (cases_lt k b.next);
  ends = λ j k jk h i. ⊎_elim (λ lt. q.ordered.ends j k jk lt i) (λ ge. let e : b.next ≡ k = omega arith in subst (λ (n : ℕ). (frame_at p j).1 ≤ (frame_at p n).1) e (⊎_elim (λ jn. omega (arith, before_above p b.next b.last q.last q.ordered j jn (omega arith), (new (omega arith)).end)) (λ jn. let d : b.next ≡ j = omega arith in subst (λ (n : ℕ). (frame_at p n).1 ≤ (frame_at p b.next).1) d (omega arith)) (cases_lt j b.next))) (cases_lt k b.next);
}

pub zero_more : {V : Type 0} (p : Partition V) (b : Progress) (t : Option ℕ) → Kept p b t → (b.next < length p.frames → Fits b (frame_at p b.next)) → T b.from_zero → (k : ℕ) → k < b.next + 1 → k < length p.frames → (frame_at p k).0 ≡ 0
zero_more p b t q new z k h i =
    ⊎_elim (λ lt. q.zero z k lt i) (λ ge. let e : b.next ≡ k = omega arith in subst (λ (n : ℕ). (frame_at p n).0 ≡ 0) e ((new (omega arith)).zero z)) (cases_lt k b.next)

-- the frame that a request past the checks shows fits, should the partition have it
pub fits_here : {V : Type 0} (wants : Bool) (p : Partition V) (b : Progress) (t : Option ℕ) (mark begin values marks : ℕ) (f : Option Frame) → Framed wants p → (T wants → b.next < length p.rows → f ≡ Some (frame_at p b.next)) → refusal wants b t mark begin values marks f ≡ None → b.next < length p.frames → Fits b (frame_at p b.next)
fits_here true p b t mark begin values marks f fr at n i =
    passed-frame b t mark begin values marks (frame_at p b.next) (subst (λ (x : Option Frame). refusal true b t mark begin values marks x ≡ None) (at tt (omega arith)) n)
fits_here false p b t mark begin values marks f fr at n i = absurd (omega (arith, ap length fr))

framed_length : {V : Type 0} (wants : Bool) (p : Partition V) → Framed wants p → T wants → (i : ℕ) → i < length p.rows → i < length p.frames
framed_length true p fr wt i h = omega arith
framed_length false p fr wt i h = absurd wt

pub known_total : {V : Type 0} (p : Partition V) (b : Progress) (t : Option ℕ) (a : ℕ) → Kept p b t → T (is_total t a) → length p.rows ≡ a
known_total p b None a q h = absurd h
known_total p b (Some n) a q h = q.sized n refl ∙ sym (eqb→eq a n h)

-- such a request asks of the partition whose frames are made to begin at 0
pub asked : {V A : Type 0} (m : Meaning V A) (wants : Bool) (p : Partition V) (b : Progress) (t : Option ℕ) (mark : ℕ) (w : Window V) (f : Option Frame) → Kept p b t → Framed wants p → m.stands (based b.from_zero p) b.next → refusal_at wants b t mark w f ≡ None → Shows p w.begin (shown w) → (T wants → b.next < length p.rows → f ≡ Some (frame_at p b.next)) → Asks m wants (based b.from_zero p) b.next w (frame_or_none f) (is_total t (end_of w))
asked m wants p b t mark w f q fr st n sh at =
    let fits : b.next < length p.frames → Fits b (frame_at p b.next) = fits_here wants p b t mark w.begin (length w.rows.values.now) (length w.rows.marks.now) f fr at n in
    record {
      stands = st;
      shows = record { within = sh.within; same = sh.same };
      framed = based_framed b.from_zero wants p fr;
      at_row = λ wt i. ap frame_or_none (at wt i) ∙ sym (at-based b.from_zero p.frames b.next (λ z. (fits (framed_length wants p fr wt b.next i)).zero z));
      ordered = based_ordered b.from_zero p (b.next + 1) (ordered_more p b t q fits);
      total = known_total p b t (end_of w) q;
    }

-- what such a request gives, of the partition itself
abbrev pub Got : {V A : Type 0} → Meaning V A → Meaning V A → Partition V → Partition V → ℕ → Bool → Result A Fault → Type 0
Got m n p q i true r = (r ≡ Ok (m.answer p i)) × n.stands q (i + 1)
Got m n p q i false r = r ≡ Err (TooEarly i)

pub got : {V A : Type 0} (m n : Meaning V A) (law : Laws m) (z : Bool) (p : Partition V) (a : ℕ) (known : Bool) (i : ℕ) (r : Result A Fault) → take (i + 1) (based_frames z p.frames) ≡ take (i + 1) p.frames → (T known → length p.rows ≡ a) → Given m n (based z p) i (settles m (based z p) a known i) r → (s : Bool) → settles m p a known i ≡ s → Got m n p (based z p) i s r
got m n law z p a known i r same len g true e =
    let d : settles m (based z p) a known i ≡ true = ap (λ (fs : List Frame). m.settled (take a p.rows) fs known i) same ∙ e in
    let h : Given m n (based z p) i true r = subst (λ (s : Bool). Given m n (based z p) i s r) d g in
    (h.0 ∙ ap Ok (law.local (based z p) p a known i refl same (λ k. (len k, len k)) (subst T (sym d) tt)), h.1)
got m n law z p a known i r same len g false e =
    let d : settles m (based z p) a known i ≡ false = ap (λ (fs : List Frame). m.settled (take a p.rows) fs known i) same ∙ e in
    subst (λ (s : Bool). Given m n (based z p) i s r) d g

-- what a check that is not passed tells
pub failed : (o : Option Fault) (f : Fault) → Err f ≡ passes o → o ≡ Some f
failed None f e = let z : ◌≡◌ {A = ℕ} 0 1 = cc in absurd (omega arith)
failed (Some g) f e = cc

-- a request that a check refuses changes nothing
pub refused_by : {V A S : Type 0} (meaning : S → Meaning V A) (wants wants' : Bool) (b : Progress) (t t' : Option ℕ) (mark' : ℕ) (w : Window V) (f : Option Frame) (e : S) (x y : Fault) (r : Result A Fault) → wants' ≡ wants → t' ≡ t → mark' ≡ (meaning e).keep → Err y ≡ passes (refusal_at wants' b t' mark' w f) → r ≡ Err x → x ≡ y → Requested meaning wants t w f e e b b r
refused_by meaning wants wants' b t t' mark' w f e x y r ew et em ey er ex =
    let n : refusal_at wants b t (meaning e).keep w f ≡ Some y = rw (← ew, ← et, ← em) (failed (refusal_at wants' b t' mark' w f) y ey) in
    record {
      outcome = subst (λ k. OutcomeBy k wants f e e b b r) (sym n) (er ∙ ap Err ex, refl, refl);
      alike = record { answer = λ p i. refl; settled = λ rows frames known i. refl };
      mark = omega arith;
      given = λ k. let z : ◌≡◌ {A = ℕ} 0 1 = cc in absurd (omega arith);
    }
