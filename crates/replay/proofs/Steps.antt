-- One call more on a run: what held of the history so far holds of the longer one.
use Rattle.std.proofs.Common.{◌≡◌, ℕ, zero, suc, ◌+◌, ◌<◌, ◌≤◌, Bool, true, false, cond, ◌&&◌, T, List, [], ◌∷◌, length, get_or, take, Some, None, Ok, Err, Option, Result, sym, refl, ap, ◌∙◌, subst, ⊎_elim, add-zero, add-one, arith}
use Rattle.std.proofs.lemmas.List.{length-take, get_or_past}
use Rattle.std.proofs.lemmas.Bool.{cases_lt}
use Rattle.column.specs.declared.fault.Fault.{Fault}
use Rattle.column.specs.declared.fault.Fault.TheVariants.{TooEarly, NotFromZero, BadTotal}
use Rattle.column.specs.declared.column.Window.{Window}
use Rattle.run.specs.declared.progress.Progress.{Progress}
use Rattle.replay.specs.declared.calls.Call.{Call}
use Rattle.replay.specs.declared.calls.Call.TheVariants.{Request, Settle, KeepMark, Close}
use Rattle.replay.specs.declared.calls.Reply.TheVariants.{Answer, Done}
use Rattle.evaluator.specs.Meaning.{Partition}
use Rattle.partition.specs.Table.{Frame}
use Rattle.run.specs.Shown.{Framed, FromZero, end_of, frame_at, frame_before, based}
use Rattle.evaluator.specs.Meaning.{Meaning, Alike, Laws, settles}
use Rattle.run.specs.Table.{is_total, unfit_total}
use Rattle.run.specs.Run.{refusal_at, frame_or_none, OutcomeBy, Requested, Settled}
use Rattle.replay.specs.History.{Outcome, answered, done, frame_of, total_after, ByTable, close_outcome, Ruled, ShownBy, AsWhole}
use Rattle.replay.specs.Act.{noted, noted_done, Does}
use Rattle.run.proofs.Zeroed.{based_framed, based_ordered, based-from_zero, take-based, at-based}
use Rattle.run.proofs.Asks.{Fits, Kept, ordered_more, zero_more, fits_here, known_total, asked, Got, got}

-- the progress after a call, which was a request that handed on the frame g if `x`
abbrev pub after : Bool → Progress → Frame → Bool → Progress
after wants b g x = record { from_zero = b.from_zero; next = b.next + cond x 1 0; last = cond (wants && x) g b.last }

-- what one call has to show of each partition
pub record Stays {V A : Type 0} (m n : Meaning V A) (wants : Bool) (p : Partition V) (b : Progress) (t : Option ℕ) (mark : ℕ) (c : Call V) (o : Outcome A) : Type 0 where
  pub kept : Kept p (after wants b (frame_of c) (answered o)) (total_after t c o)
  pub stands : n.stands (based b.from_zero p) (b.next + cond (answered o) 1 0)
  pub whole : AsWhole m p wants b t mark c o

-- what one call has to show
pub record Step {V A : Type 0} (m n : Meaning V A) (wants : Bool) (b : Progress) (t : Option ℕ) (mark : ℕ) (c : Call V) (o : Outcome A) (b' : Progress) : Type 0 where
  pub progress : b' ≡ after wants b (frame_of c) (answered o)
  pub alike : Alike m n
  pub rises : m.keep ≤ n.keep
  pub ruled : Ruled wants b t mark c o
  pub stays : (p : Partition V) → Framed wants p → Kept p b t → m.stands (based b.from_zero p) b.next → ShownBy wants p b.next c o → Stays m n wants p b t mark c o

pub alike_refl : {V A : Type 0} (m : Meaning V A) → Alike m m
alike_refl m = record { answer = λ p i. refl; settled = λ rows frames known i. refl }

pub alike-step : {V A : Type 0} (l m n : Meaning V A) → Alike l m → Alike m n → Alike l n
alike-step l m n a b = record { answer = λ p i. b.answer p i ∙ a.answer p i; settled = λ rows frames known i. b.settled rows frames known i ∙ a.settled rows frames known i }

alike_same : {V A S : Type 0} (meaning : S → Meaning V A) (e e' : S) → e' ≡ e → Alike (meaning e) (meaning e')
alike_same meaning e e' p = subst (λ x. Alike (meaning e) (meaning x)) (sym p) (alike_refl (meaning e))

rises_same : {V A S : Type 0} (meaning : S → Meaning V A) (e e' : S) → e' ≡ e → (meaning e).keep ≤ (meaning e').keep
rises_same meaning e e' p = subst (λ x. (meaning e).keep ≤ (meaning x).keep) (sym p) (omega arith)

-- a call that is no accepted request leaves the progress and the place alone
idle_progress : (wants : Bool) (b : Progress) (g : Frame) (x : Bool) → x ≡ false → b ≡ after wants b g x
idle_progress true b g x e = subst (λ (y : Bool). b ≡ after true b g y) (sym e) (ap (λ (n : ℕ). record { from_zero = b.from_zero; next = n; last = b.last }) (sym (add-zero b.next)))
idle_progress false b g x e = subst (λ (y : Bool). b ≡ after false b g y) (sym e) (ap (λ (n : ℕ). record { from_zero = b.from_zero; next = n; last = b.last }) (sym (add-zero b.next)))

pub record Idles {V A : Type 0} (m n : Meaning V A) (wants : Bool) (p : Partition V) (b : Progress) (t : Option ℕ) (mark : ℕ) (c : Call V) (o : Outcome A) : Type 0 where
  pub sized : (k : ℕ) → total_after t c o ≡ Some k → length p.rows ≡ k
  pub stands : n.stands (based b.from_zero p) b.next
  pub whole : AsWhole m p wants b t mark c o

idle : {V A : Type 0} (m n : Meaning V A) (wants : Bool) (p : Partition V) (b : Progress) (t : Option ℕ) (mark : ℕ) (c : Call V) (o : Outcome A) → answered o ≡ false → Kept p b t → Idles m n wants p b t mark c o → Stays m n wants p b t mark c o
idle m n wants p b t mark c o a q i =
    let same : b ≡ after wants b (frame_of c) (answered o) = idle_progress wants b (frame_of c) (answered o) a in
    record {
      kept = subst (λ (x : Progress). Kept p x (total_after t c o)) same (record { last = q.last; ordered = q.ordered; zero = q.zero; sized = i.sized });
      stands = subst (λ (x : Progress). n.stands (based b.from_zero p) x.next) same i.stands;
      whole = i.whole;
    }

-- keep mark
pub step-mark : {V A S : Type 0} (meaning : S → Meaning V A) (wants : Bool) (b : Progress) (t : Option ℕ) (e e' : S) (b' : Progress) (o : Outcome A) → Does meaning wants t KeepMark e e' b b' o → Step (meaning e) (meaning e') wants b t (meaning e).keep KeepMark o b'
step-mark meaning wants b t e e' b' o d =
    let a : answered o ≡ false = ap answered d.0 in
    record {
      progress = d.2 ∙ idle_progress wants b (0, 0) (answered o) a;
      alike = alike_same meaning e e' d.1;
      rises = rises_same meaning e e' d.1;
      ruled = d.0;
      stays = λ p fr q st sh. idle (meaning e) (meaning e') wants p b t (meaning e).keep KeepMark o a q (record {
        sized = q.sized;
        stands = subst (λ x. (meaning x).stands (based b.from_zero p) b.next) (sym d.1) st;
        whole = tt;
      });
    }

-- settling
settle_idle : (A : Type 0) (r : Result (Unit {0}) Fault) → answered (noted_done {A = A} r) ≡ false
settle_idle A (Ok x) = refl
settle_idle A (Err f) = refl

settle-noted : (A : Type 0) (z : Bool) (f : Fault) → noted_done {A = A} (cond z (Ok tt) (Err f)) ≡ cond z (Ok Done) (Err f)
settle-noted A true f = refl
settle-noted A false f = refl

before-based : {V : Type 0} (p : Partition V) (z : Bool) (n : ℕ) → (T z → (k : ℕ) → k < n → k < length p.frames → (frame_at p k).0 ≡ 0) → frame_before (based z p) n ≡ frame_before p n
before-based p z zero h = refl
before-based p z (suc n) h = at-based z p.frames n (λ y. ⊎_elim (λ lt. h y n (omega arith) lt) (λ ge. ap (λ (f : Frame). f.0) (get_or_past p.frames n (0, 0) ge)) (cases_lt n (length p.frames)))

settle_stands : {V A S : Type 0} (meaning : S → Meaning V A) (wants : Bool) (b : Progress) (t : Option ℕ) (e e' : S) (r : Result (Unit {0}) Fault) → Settled meaning wants b e e' r → (p : Partition V) → Framed wants p → Kept p b t → (meaning e).stands (based b.from_zero p) b.next → (z : Bool) → b.from_zero ≡ z → (meaning e').stands (based b.from_zero p) b.next
settle_stands meaning wants b t e e' r s p fr q st true z =
    s.settles.stands (based b.from_zero p) st (based_framed b.from_zero wants p fr) (subst (λ (y : Bool). FromZero (based y p)) (sym z) (based-from_zero p)) (based_ordered b.from_zero p b.next q.ordered) (q.last ∙ sym (before-based p b.from_zero b.next q.zero))
settle_stands meaning wants b t e e' r s p fr q st false z = subst (λ x. (meaning x).stands (based b.from_zero p) b.next) (sym (s.refused z)) st

pub step-settle : {V A S : Type 0} (meaning : S → Meaning V A) (wants : Bool) (b : Progress) (t : Option ℕ) (e e' : S) (b' : Progress) (o : Outcome A) → Does meaning wants t Settle e e' b b' o → Step (meaning e) (meaning e') wants b t (meaning e).keep Settle o b'
step-settle {V} {A} {S} meaning wants b t e e' b' o d =
    let a : answered o ≡ false = ap answered d.2 ∙ settle_idle A d.0 in
    record {
      progress = d.3 ∙ idle_progress wants b (0, 0) (answered o) a;
      alike = d.1.settles.alike;
      rises = d.1.settles.mark;
      ruled = d.2 ∙ (ap noted_done d.1.outcome ∙ settle-noted A b.from_zero (NotFromZero b.next));
      stays = λ p fr q st sh. idle (meaning e) (meaning e') wants p b t (meaning e).keep Settle o a q (record {
        sized = q.sized;
        stands = settle_stands meaning wants b t e e' d.0 d.1 p fr q st b.from_zero refl;
        whole = tt;
      });
    }

-- closing
cond_idle : (A : Type 0) (x : Bool) (f : Fault) → answered {A = A} (cond x (Err f) (Ok Done)) ≡ false
cond_idle A true f = refl
cond_idle A false f = refl

close_idle : (A : Type 0) (b : Progress) (t : Option ℕ) (n : ℕ) → answered {A = A} (close_outcome b t n) ≡ false
close_idle A b None n = cond_idle A (unfit_total b n) (BadTotal b.next)
close_idle A b (Some k) n = refl

close_sized : (l n : ℕ) (t : Option ℕ) (x : Bool) → (T x → l ≡ n) → ((k : ℕ) → t ≡ Some k → l ≡ k) → (k : ℕ) → cond x (Some n) t ≡ Some k → l ≡ k
close_sized l n t true h q k e = let g : l ≡ n = h tt in cc
close_sized l n t false h q k e = q k e

pub step-close : {V A S : Type 0} (meaning : S → Meaning V A) (wants : Bool) (b : Progress) (t : Option ℕ) (n : ℕ) (e e' : S) (b' : Progress) (o : Outcome A) → Does meaning wants t (Close n) e e' b b' o → Step (meaning e) (meaning e') wants b t (meaning e).keep (Close n) o b'
step-close {V} {A} {S} meaning wants b t n e e' b' o d =
    let a : answered o ≡ false = ap answered d.0 ∙ close_idle A b t n in
    record {
      progress = d.2 ∙ idle_progress wants b (0, 0) (answered o) a;
      alike = alike_same meaning e e' d.1;
      rises = rises_same meaning e e' d.1;
      ruled = d.0;
      stays = λ p fr q st sh. idle (meaning e) (meaning e') wants p b t (meaning e).keep (Close n) o a q (record {
        sized = close_sized (length p.rows) n t (done o) sh q.sized;
        stands = subst (λ x. (meaning x).stands (based b.from_zero p) b.next) (sym d.1) st;
        whole = tt;
      });
    }

-- a request
request_progress : {A S : Type 0} (ref : Option Fault) (wants : Bool) (f : Option Frame) (e e' : S) (b b' : Progress) (r : Result A Fault) → OutcomeBy ref wants f e e' b b' r → b' ≡ after wants b (frame_or_none f) (answered (noted r))
request_progress (Some x) wants f e e' b b' r d = d.2 ∙ idle_progress wants b (frame_or_none f) (answered (noted r)) (ap (λ y. answered (noted y)) d.0)
request_progress None true f e e' b b' (Ok x) d = d
request_progress None false f e e' b b' (Ok x) d = d
request_progress None wants f e e' b b' (Err x) d = d.2 ∙ idle_progress wants b (frame_or_none f) false refl

request_ruled : {A S : Type 0} (ref : Option Fault) (wants : Bool) (f : Option Frame) (e e' : S) (b b' : Progress) (r : Result A Fault) → OutcomeBy ref wants f e e' b b' r → ByTable ref b.next (noted r)
request_ruled (Some x) wants f e e' b b' r d = ap noted d.0
request_ruled None wants f e e' b b' (Ok x) d = tt
request_ruled None wants f e e' b b' (Err x) d = d.0

none_before : (n : ℕ) → get_or {A = Frame} ((0, 0) ∷ []) n (0, 0) ≡ (0, 0)
none_before zero = refl
none_before (suc n) = refl

last_more : {V : Type 0} (wants : Bool) (p : Partition V) (b : Progress) (t : Option ℕ) (f : Option Frame) → Framed wants p → Kept p b t → b.next < length p.rows → (T wants → b.next < length p.rows → f ≡ Some (frame_at p b.next)) → cond (wants && true) (frame_or_none f) b.last ≡ frame_before p (b.next + 1)
last_more true p b t f fr q i at = ap frame_or_none (at tt i) ∙ sym (ap (λ (n : ℕ). frame_before p n) (add-one b.next))
last_more false p b t f fr q i at =
    let none : (n : ℕ) → frame_before p n ≡ (0, 0) = λ n. ap (λ (fs : List Frame). get_or ((0, 0) ∷ fs) n (0, 0)) fr ∙ none_before n in
    q.last ∙ (none b.next ∙ sym (none (b.next + 1)))

pub kept_more : {V : Type 0} (wants : Bool) (p : Partition V) (b : Progress) (t : Option ℕ) (f : Option Frame) → Framed wants p → Kept p b t → b.next < length p.rows → (T wants → b.next < length p.rows → f ≡ Some (frame_at p b.next)) → (b.next < length p.frames → Fits b (frame_at p b.next)) → Kept p (after wants b (frame_or_none f) true) t
kept_more wants p b t f fr q i at fits = record {
  last = last_more wants p b t f fr q i at;
  ordered = ordered_more p b t q fits;
  zero = zero_more p b t q fits;
  sized = q.sized;
}

-- what a request past the checks has to show, where the row is settled or not
module _ {V A : Type 0} (m n : Meaning V A) (law : Laws m) (wants : Bool) (p : Partition V) (b : Progress) (t : Option ℕ) (w : Window V) (f : Option Frame) (fr : Framed wants p) (q : Kept p b t) (at : T wants → b.next < length p.rows → f ≡ Some (frame_at p b.next)) (fits : b.next < length p.frames → Fits b (frame_at p b.next)) where
  stays_ok : (x : A) (s : Bool) → settles m p (end_of w) (is_total t (end_of w)) b.next ≡ s → Got m n p (based b.from_zero p) b.next s (Ok x) → Stays m n wants p b t m.keep (Request w f) (Ok (Answer x))
  stays_ok x true e g =
      let i : b.next < length (take (end_of w) p.rows) = law.below (take (end_of w) p.rows) (take (b.next + 1) p.frames) (is_total t (end_of w)) b.next (subst T (sym e) tt) in
      record {
        kept = kept_more wants p b t f fr q (omega (arith, length-take (end_of w) p.rows)) at fits;
        stands = g.1;
        whole = record {
          answer = λ y h. let k = g.0 in cc;
          early = λ h k. let z : ◌≡◌ {A = ℕ} 0 1 = cc in absurd (omega arith);
          timely = λ h k. let z : ◌≡◌ {A = ℕ} 0 1 = cc in absurd (omega arith);
        };
      }
  stays_ok x false e g = let z : ◌≡◌ {A = ℕ} 0 1 = cc in absurd (omega arith)

  stays_err : (x : Fault) → x ≡ TooEarly b.next → n.stands (based b.from_zero p) b.next → (s : Bool) → settles m p (end_of w) (is_total t (end_of w)) b.next ≡ s → Got m n p (based b.from_zero p) b.next s (Err x) → Stays m n wants p b t m.keep (Request w f) (Err x)
  stays_err x early st true e g = let k = g.0 in let z : ◌≡◌ {A = ℕ} 0 1 = cc in absurd (omega arith)
  stays_err x early st false e g = idle m n wants p b t m.keep (Request w f) (Err x) refl q (record {
    sized = q.sized;
    stands = st;
    whole = record {
      answer = λ y h. let z : ◌≡◌ {A = ℕ} 0 1 = cc in absurd (omega arith);
      early = λ h k. e;
      timely = λ h k. ap Err early;
    };
  })

request_stays : {V A S : Type 0} (meaning : S → Meaning V A) (law : (e : S) → Laws (meaning e)) (wants : Bool) (b : Progress) (t : Option ℕ) (w : Window V) (f : Option Frame) (e e' : S) (b' : Progress) (r : Result A Fault) → Requested meaning wants t w f e e' b b' r → (p : Partition V) → Framed wants p → Kept p b t → (meaning e).stands (based b.from_zero p) b.next → ShownBy wants p b.next (Request w f) (noted r) → (ref : Option Fault) → refusal_at wants b t (meaning e).keep w f ≡ ref → OutcomeBy ref wants f e e' b b' r → Stays (meaning e) (meaning e') wants p b t (meaning e).keep (Request w f) (noted r)
request_stays meaning law wants b t w f e e' b' r a p fr q st sh (Some x) n d =
    let refused : noted r ≡ Err x = ap noted d.0 in
    idle (meaning e) (meaning e') wants p b t (meaning e).keep (Request w f) (noted r) (ap answered refused) q (record {
      sized = q.sized;
      stands = subst (λ x. (meaning x).stands (based b.from_zero p) b.next) (sym d.1) st;
      whole = record {
        answer = λ y h. let z : ◌≡◌ {A = ℕ} 0 1 = cc in absurd (omega arith);
        early = λ h k. let z : ◌≡◌ {A = ℕ} 0 1 = cc in absurd (omega arith);
        timely = λ h k. let z : ◌≡◌ {A = ℕ} 0 1 = cc in absurd (omega arith);
      };
    })
request_stays meaning law wants b t w f e e' b' (Ok x) a p fr q st sh None n d =
    let at = (sh tt).1 in
    let fits = fits_here wants p b t (meaning e).keep w.begin (length w.rows.values.now) (length w.rows.marks.now) f fr at n in
    let ask = asked (meaning e) wants p b t (meaning e).keep w f q fr st n (sh tt).0 at in
    stays_ok (meaning e) (meaning e') (law e) wants p b t w f fr q at fits x _ refl (got (meaning e) (meaning e') (law e) b.from_zero p (end_of w) (is_total t (end_of w)) b.next (Ok x) (take-based b.from_zero (b.next + 1) p.frames (zero_more p b t q fits)) (known_total p b t (end_of w) q) (a.given n (based b.from_zero p) ask) _ refl)
request_stays meaning law wants b t w f e e' b' (Err x) a p fr q st sh None n d =
    let at = (sh d.0).1 in
    let fits = fits_here wants p b t (meaning e).keep w.begin (length w.rows.values.now) (length w.rows.marks.now) f fr at n in
    let ask = asked (meaning e) wants p b t (meaning e).keep w f q fr st n (sh d.0).0 at in
    stays_err (meaning e) (meaning e') (law e) wants p b t w f fr q at fits x d.0 (subst (λ x. (meaning x).stands (based b.from_zero p) b.next) (sym d.1) st) _ refl (got (meaning e) (meaning e') (law e) b.from_zero p (end_of w) (is_total t (end_of w)) b.next (Err x) (take-based b.from_zero (b.next + 1) p.frames (zero_more p b t q fits)) (known_total p b t (end_of w) q) (a.given n (based b.from_zero p) ask) _ refl)

pub step-request : {V A S : Type 0} (meaning : S → Meaning V A) (law : (e : S) → Laws (meaning e)) (wants : Bool) (b : Progress) (t : Option ℕ) (w : Window V) (f : Option Frame) (e e' : S) (b' : Progress) (o : Outcome A) → Does meaning wants t (Request w f) e e' b b' o → Step (meaning e) (meaning e') wants b t (meaning e).keep (Request w f) o b'
step-request meaning law wants b t w f e e' b' o d =
    let ref : Option Fault = refusal_at wants b t (meaning e).keep w f in
    subst (λ x. Step (meaning e) (meaning e') wants b t (meaning e).keep (Request w f) x b') (sym d.2) (record {
      progress = request_progress ref wants f e e' b b' d.0 d.1.outcome;
      alike = d.1.alike;
      rises = d.1.mark;
      ruled = request_ruled ref wants f e e' b b' d.0 d.1.outcome;
      stays = λ p fr q st sh. request_stays meaning law wants b t w f e e' b' d.0 d.1 p fr q st sh ref refl d.1.outcome;
    })

-- any call
pub step : {V A S : Type 0} (meaning : S → Meaning V A) (law : (e : S) → Laws (meaning e)) (wants : Bool) (b : Progress) (t : Option ℕ) (c : Call V) (e e' : S) (b' : Progress) (o : Outcome A) → Does meaning wants t c e e' b b' o → Step (meaning e) (meaning e') wants b t (meaning e).keep c o b'
step meaning law wants b t (Request w f) e e' b' o d = step-request meaning law wants b t w f e e' b' o d
step meaning law wants b t Settle e e' b' o d = step-settle meaning wants b t e e' b' o d
step meaning law wants b t KeepMark e e' b' o d = step-mark meaning wants b t e e' b' o d
step meaning law wants b t (Close n) e e' b' o d = step-close meaning wants b t n e e' b' o d
