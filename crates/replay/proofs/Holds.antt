-- What holds of a run after each call, with the history so far.
use Rattle.std.proofs.Common.{◌≡◌, ℕ, ◌+◌, ◌<◌, ◌≤◌, Bool, cond, List, [], ◌∷◌, ◌++◌, length, get_or, take, None, Option, sym, refl, ap, ◌∙◌, subst, ⊎_elim, arith}
use Rattle.std.proofs.lemmas.List.{append_assoc, take_more, length-take-le}
use Rattle.run.specs.declared.progress.Progress.{Progress}
use Rattle.replay.specs.declared.calls.Call.{Call}
use Rattle.replay.specs.declared.calls.Call.TheVariants.{Request, Settle, KeepMark, Close}
use Rattle.replay.specs.declared.calls.Entry.{Entry}
use Rattle.run.specs.declared.run.Run.{Run}
use Rattle.evaluator.specs.Meaning.{Partition}
use Rattle.partition.specs.Table.{Frame}
use Rattle.run.specs.Shown.{end_of, based}
use Rattle.evaluator.specs.Meaning.{Meaning, Alike, Laws}
use Rattle.run.specs.Table.{is_total}
use Rattle.replay.specs.History.{Outcome, Event, history, answered, accepted, last_frame, frame_of, total_of, total_after, progress_at, Ruled, Shown, AsWhole, Marked, Replayed}
use Rattle.replay.specs.Act.{Acted, Ended, Does, evaluator_of, progress_of, total_now}
use Rattle.replay.proofs.Splits.{split_push, never_nil, accepted_push, last_push, total_push, history_push}
use Rattle.run.proofs.Asks.{Kept}
use Rattle.replay.proofs.Steps.{after, Stays, Step, alike-step, step}

pub record Holds {V A S : Type 0} (meaning : S → Meaning V A) (e₀ : S) (wants z : Bool) (e : S) (h : List (Event V A)) : Type 0 where
  pub alike : Alike (meaning e₀) (meaning e)
  pub kept : (p : Partition V) → Shown wants p h → Kept p (progress_at wants z h) (total_of None h) × (meaning e).stands (based z p) (accepted h)
  pub marked : (before after : List (Event V A)) (x : Event V A) → h ≡ before ++ x ∷ after → x.1.mark ≤ (meaning e).keep
  pub replayed : Replayed meaning e₀ wants z h

progress_push : {V A : Type 0} (wants z : Bool) (h : List (Event V A)) (x : Event V A) → progress_at wants z (h ++ x ∷ []) ≡ after wants (progress_at wants z h) (frame_of x.0) (answered x.1.outcome)
progress_push wants z h x =
    ap (λ (n : ℕ). record { from_zero = z; next = n; last = last_frame wants (0, 0) (h ++ x ∷ []) }) (accepted_push h x) ∙ ap (λ (f : Frame). record { from_zero = z; next = accepted h + cond (answered x.1.outcome) 1 0; last = f }) (last_push wants (0, 0) h x)

shown-before : {V A : Type 0} (wants : Bool) (p : Partition V) (h : List (Event V A)) (x : Event V A) → Shown wants p (h ++ x ∷ []) → Shown wants p h
shown-before wants p h x s = record {
  framed = s.framed;
  each = λ before after e q. s.each before (after ++ x ∷ []) e (ap (λ l. l ++ x ∷ []) q ∙ append_assoc before (e ∷ after) (x ∷ []));
}

whole_alike : {V A : Type 0} (m n : Meaning V A) → Alike m n → (p : Partition V) (wants : Bool) (b : Progress) (t : Option ℕ) (mark : ℕ) (c : Call V) (o : Outcome A) → AsWhole n p wants b t mark c o → AsWhole m p wants b t mark c o
whole_alike m n a p wants b t mark (Request w f) o r = record {
  answer = λ x h. r.answer x h ∙ a.answer p b.next;
  early = λ h k. sym (a.settled (take (end_of w) p.rows) (take (b.next + 1) p.frames) (is_total t (end_of w)) b.next) ∙ r.early h k;
  timely = λ h k. r.timely h (a.settled (take (end_of w) p.rows) (take (b.next + 1) p.frames) (is_total t (end_of w)) b.next ∙ k);
}
whole_alike m n a p wants b t mark Settle o r = tt
whole_alike m n a p wants b t mark KeepMark o r = tt
whole_alike m n a p wants b t mark (Close k) o r = tt

abbrev RuledAt : {V A : Type 0} → Bool → Bool → List (Event V A) → Event V A → Type 0
RuledAt wants z before x = Ruled wants (progress_at wants z before) (total_of None before) x.1.mark x.0 x.1.outcome

abbrev WholeAt : {V A : Type 0} → Meaning V A → Partition V → Bool → Bool → List (Event V A) → Event V A → Type 0
WholeAt m p wants z before x = AsWhole m p wants (progress_at wants z before) (total_of None before) x.1.mark x.0 x.1.outcome

abbrev MarkedAt : {V A S : Type 0} → (S → Meaning V A) → S → Partition V → Bool → List (Event V A) → Event V A → Type 0
MarkedAt meaning e₀ p z before x = Marked meaning e₀ (based z p) (accepted before) x.1.mark

-- nothing called yet
pub start : {V A S : Type 0} (meaning : S → Meaning V A) (e₀ : S) (wants z : Bool) (e : S) → Alike (meaning e₀) (meaning e) → ((p : Partition V) → (meaning e).stands p 0) → Holds meaning e₀ wants z e []
start meaning e₀ wants z e a st = record {
  alike = a;
  kept = λ p sh. (
    record {
      last = refl;
      ordered = record { proper = λ k h i. absurd (omega arith); starts = λ j k q h i. absurd (omega arith); ends = λ j k q h i. absurd (omega arith) };
      zero = λ y k h i. absurd (omega arith);
      sized = λ n q. let y : ◌≡◌ {A = ℕ} 0 1 = cc in absurd (omega arith);
    },
    st (based z p),
  );
  marked = λ before after x q. absurd (never_nil before x after q);
  replayed = record {
    ruled = λ before after x q. absurd (never_nil before x after q);
    marks = λ before between after x y q. absurd (never_nil before x (between ++ y ∷ after) q);
    marked = λ p sh before after x q. absurd (never_nil before x after q);
    whole = λ p sh before after x q. absurd (never_nil before x after q);
  };
}

-- one call more
pub extend : {V A S : Type 0} (meaning : S → Meaning V A) (e₀ : S) (wants z : Bool) (e e' : S) (h : List (Event V A)) (c : Call V) (n : Entry A) (b' : Progress) → Holds meaning e₀ wants z e h → n.mark ≡ (meaning e).keep → Step (meaning e) (meaning e') wants (progress_at wants z h) (total_of None h) n.mark c n.outcome b' → Holds meaning e₀ wants z e' (h ++ (c, n) ∷ [])
extend meaning e₀ wants z e e' h c n b' o k s =
    let stays : (p : Partition _) → Shown wants p (h ++ (c, n) ∷ []) → Stays (meaning e) (meaning e') wants p (progress_at wants z h) (total_of None h) n.mark c n.outcome = λ p sh. let k = o.kept p (shown-before wants p h (c, n) sh) in s.stays p sh.framed k.0 k.1 (sh.each h [] (c, n) refl) in
    record {
      alike = alike-step (meaning e₀) (meaning e) (meaning e') o.alike s.alike;
      kept = λ p sh. let y = stays p sh in
          (subst (λ (t : Option ℕ). Kept p (progress_at wants z (h ++ (c, n) ∷ [])) t) (sym (total_push None h (c, n))) (subst (λ (b : Progress). Kept p b (total_after (total_of None h) c n.outcome)) (sym (progress_push wants z h (c, n))) y.kept), subst (λ (k : ℕ). (meaning e').stands (based z p) k) (sym (accepted_push h (c, n))) y.stands);
      marked = λ before after x q. ⊎_elim (λ l. omega (arith, k, s.rises, ap (λ y. y.1.mark) l.1)) (λ r. omega (arith, s.rises, o.marked before r.0 x r.1)) (split_push h (c, n) before x after q);
      replayed = record {
        marked = λ p sh before after x q. ⊎_elim (λ l. subst (λ b. MarkedAt meaning e₀ p z b x) l.0 (subst (λ y. MarkedAt meaning e₀ p z h y) l.1 (record { at = e; alike = o.alike; stands = (o.kept p (shown-before wants p h (c, n) sh)).1; keeps = k }))) (λ r. o.replayed.marked p (shown-before wants p h (c, n) sh) before r.0 x r.1) (split_push h (c, n) before x after q);
        marks = λ before between after x y q. ⊎_elim (λ l. omega (arith, k, o.marked before between x l.0, ap (λ v. v.1.mark) l.1)) (λ r. o.replayed.marks before between r.0 x y (r.1 ∙ append_assoc before (x ∷ between) (y ∷ r.0))) (split_push h (c, n) (before ++ x ∷ between) y after (q ∙ sym (append_assoc before (x ∷ between) (y ∷ after))));
        ruled = λ before after x q. ⊎_elim (λ l. subst (λ b. RuledAt wants z b x) l.0 (subst (λ y. RuledAt wants z h y) l.1 s.ruled)) (λ r. o.replayed.ruled before r.0 x r.1) (split_push h (c, n) before x after q);
        whole = λ p sh before after x q. ⊎_elim (λ l. subst (λ b. WholeAt (meaning e₀) p wants z b x) l.0 (subst (λ y. WholeAt (meaning e₀) p wants z h y) l.1 (whole_alike (meaning e₀) (meaning e) o.alike p wants (progress_at wants z h) (total_of None h) n.mark c n.outcome (stays p sh).whole))) (λ r. o.replayed.whole p (shown-before wants p h (c, n) sh) before r.0 x r.1) (split_push h (c, n) before x after q);
      };
    }

-- a run, with the history so far
pub record Stands {V A S : Type 0} (meaning : S → Meaning V A) (e₀ : S) (wants z : Bool) (s : Run S) (h : List (Event V A)) : Type 0 where
  pub progress : progress_of s ≡ progress_at wants z h
  pub total : total_now s ≡ total_of None h
  pub holds : Holds meaning e₀ wants z (evaluator_of s) h

pub moves : {V A S : Type 0} (meaning : S → Meaning V A) (law : (e : S) → Laws (meaning e)) (e₀ : S) (wants z : Bool) (s s' : Run S) (h : List (Event V A)) (c : Call V) (n : Entry A) → Stands meaning e₀ wants z s h → Acted meaning wants c s s' n → Stands meaning e₀ wants z s' (h ++ (c, n) ∷ [])
moves meaning law e₀ wants z s s' h c n o a =
    let d : Does meaning wants (total_of None h) c (evaluator_of s) (evaluator_of s') (progress_at wants z h) (progress_of s') n.outcome = subst (λ (t : Option ℕ). Does meaning wants t c (evaluator_of s) (evaluator_of s') (progress_at wants z h) (progress_of s') n.outcome) o.total (subst (λ (b : Progress). Does meaning wants (total_now s) c (evaluator_of s) (evaluator_of s') b (progress_of s') n.outcome) o.progress a.does) in
    let y : Step (meaning (evaluator_of s)) (meaning (evaluator_of s')) wants (progress_at wants z h) (total_of None h) n.mark c n.outcome (progress_of s') = subst (λ (k : ℕ). Step (meaning (evaluator_of s)) (meaning (evaluator_of s')) wants (progress_at wants z h) (total_of None h) k c n.outcome (progress_of s')) (sym a.mark) (step meaning law wants (progress_at wants z h) (total_of None h) c (evaluator_of s) (evaluator_of s') (progress_of s') n.outcome d) in
    record {
      progress = y.progress ∙ sym (progress_push wants z h (c, n));
      total = a.total ∙ (ap (λ (t : Option ℕ). total_after t c n.outcome) o.total ∙ sym (total_push None h (c, n)));
      holds = extend meaning e₀ wants z (evaluator_of s) (evaluator_of s') h c n (progress_of s') o.holds a.mark y;
    }

-- the same history, of an evaluator whose meaning is alike
pub replayed_alike : {V A S : Type 0} (meaning : S → Meaning V A) (d e : S) → Alike (meaning d) (meaning e) → (wants z : Bool) (h : List (Event V A)) → Replayed meaning e wants z h → Replayed meaning d wants z h
replayed_alike meaning d e a wants z h r = record {
  ruled = r.ruled;
  marks = r.marks;
  whole = λ p sh before after x q. whole_alike (meaning d) (meaning e) a p wants (progress_at wants z before) (total_of None before) x.1.mark x.0 x.1.outcome (r.whole p sh before after x q);
  marked = λ p sh before after x q. let k = r.marked p sh before after x q in record { at = k.at; alike = alike-step (meaning d) (meaning e) (meaning k.at) a k.alike; stands = k.stands; keeps = k.keeps };
}

-- one call and one note more
pub history-next : {V A : Type 0} (calls : List (Call V)) (i : ℕ) (call : Call V) (notes notes' : List (Entry A)) (n : Entry A) → length notes ≡ i → i < length calls → call ≡ get_or calls i call → notes' ≡ notes ++ n ∷ [] → history (take (i + 1) calls) notes' ≡ history (take i calls) notes ++ (call, n) ∷ []
history-next calls i call notes notes' n len lt is e =
    let taken : take (i + 1) calls ≡ take i calls ++ call ∷ [] = take_more calls i call lt ∙ ap (λ x. take i calls ++ x ∷ []) (sym is) in
    ap (λ x. history x notes') taken ∙ (ap (λ x. history (take i calls ++ call ∷ []) x) e ∙ history_push (take i calls) notes call n (length-take-le i calls (omega arith) ∙ sym len))

-- the law of what was called
pub ends : {V A S : Type 0} (meaning : S → Meaning V A) (d e₀ : S) (wants z : Bool) (s : Run S) (h : List (Event V A)) → Alike (meaning d) (meaning e₀) → Stands meaning e₀ wants z s h → Replayed meaning d wants z h × Ended meaning d wants z s h
ends meaning d e₀ wants z s h a st = (
  replayed_alike meaning d e₀ a wants z h st.holds.replayed,
  record {
    progress = st.progress;
    total = st.total;
    alike = alike-step (meaning d) (meaning e₀) (meaning (evaluator_of s)) a st.holds.alike;
    stands = λ p sh. (st.holds.kept p sh).1;
  },
)
