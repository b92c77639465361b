-- Settling keeps an evaluator standing where all frames begin at 0, and its mark never falls.
use Rattle.std.proofs.Common.{◌≡◌, ℕ, zero, suc, ◌+◌, ◌-◌, ◌<◌, ◌≤◌, Bool, true, false, cond, not, ◌&&◌, ltb, leb, ◌∷◌, ℤ, pos, negsuc, is_some, Some, None, Option, sym, refl, ap, ◌∙◌, subst, ⊎_elim, arith}
use Rattle.std.specs.List.{slice_get}
use Rattle.std.proofs.lemmas.Bool.{cases_lt, ltb-true}
use Rattle.std.proofs.lemmas.Bool.Decides.{nat_tests}
use Rattle.partition.specs.Table.{Frame}
use Rattle.evaluator.specs.Meaning.{Partition}
use Rattle.run.specs.Shown.{FromZero, frame_at, frame_before}
use Rattle.present.specs.Present.{at, ahead}
use Rattle.present.proofs.Ahead.{ahead_longer, ahead-number}
use Rattle.nth_value.specs.declared.kind.NthValueKind.{NthValueKind}
use Rattle.nth_value.specs.declared.kind.NthValueKind.TheVariants.{First, Last, Nth}
use Rattle.nth_value.specs.declared.kind.Pick.{Pick}
use Rattle.nth_value.specs.declared.kind.Pick.TheVariants.{FromStart, FromEnd}
use Rattle.nth_value.specs.declared.state.NthValueState.{NthValueState}
use Rattle.nth_value.specs.Frames.{pick_of, cell_of, value_in}
use Rattle.nth_value.specs.Settling.{raised, fixed, settled_nth, settled_by}
use Rattle.nth_value.specs.Nth.{nth_answer, Hides, Holding}
use Rattle.nth_value.proofs.Spans.{start_in, end_in, end_out}
use Rattle.nth_value.specs.Local.{value_same}
use Rattle.nth_value.proofs.Holds.{later, raised_holds, fixed_holds}

-- where no row of a stretch is present, all are NULL
null_step : {V : Type 0} (f : ℕ → Option V) (s n k : ℕ) (x : Option V) → f s ≡ x → slice_get (ahead f s (suc n)) 0 ≡ None → (slice_get (ahead f (s + 1) n) 0 ≡ None → s + 1 ≤ k → k < s + 1 + n → f k ≡ None) → s ≤ k → k < s + suc n → f k ≡ None
null_step {V} f s n k None e h ih l u = ⊎_elim
    (λ lt. ih (ap (λ (y : Option V). slice_get (cond (is_some y) (s ∷ ahead f (s + 1) n) (ahead f (s + 1) n)) 0) (sym e) ∙ h) (omega arith) (omega arith))
    (λ ge. let q : k ≡ s = omega arith in ap f q ∙ e)
    (cases_lt s k)
null_step {V} f s n k (Some v) e h ih l u =
    let some : slice_get (ahead f s (suc n)) 0 ≡ Some s = ap (λ (y : Option V). slice_get (cond (is_some y) (s ∷ ahead f (s + 1) n) (ahead f (s + 1) n)) 0) e in
    let z : ◌≡◌ {A = ℕ} 0 1 = cc in absurd (omega arith)

none_null : {V : Type 0} (f : ℕ → Option V) (s n : ℕ) → slice_get (ahead f s n) 0 ≡ None → (k : ℕ) → s ≤ k → k < s + n → f k ≡ None
none_null f s zero h k l u = absurd (omega arith)
none_null f s (suc n) h k l u = null_step f s n k (f s) refl h (λ q a b. none_null f (s + 1) n q k a b) l u

-- the cell of a present row that was found is there
found_some : {V : Type 0} (f : ℕ → Option V) (s n j : ℕ) (o : Option ℕ) → slice_get (ahead f s n) j ≡ o → is_some (cell_of f o) ≡ is_some o
found_some f s n j None e = refl
found_some f s n j (Some r) e = (ahead-number f s n j r e).present

none_of : {X : Type 0} (o : Option X) → is_some o ≡ false → o ≡ None
none_of None h = refl
none_of (Some x) h = let z : ◌≡◌ {A = ℕ} 0 1 = cc in absurd (omega arith)

some_of : {X : Type 0} (o : Option X) → is_some o ≡ true → (x : X) × (o ≡ Some x)
some_of None h = let z : ◌≡◌ {A = ℕ} 0 1 = cc in absurd (omega arith)
some_of (Some x) h = (x, refl)

module _ {V : Type 0} (p : Partition V) (z : FromZero p) where
  -- the frame of a row begins at 0
  frame_zero : (j : ℕ) → frame_at p j ≡ (0, (frame_at p j).1)
  frame_zero j = ap (λ (s : ℕ). (s, (frame_at p j).1)) (z j)

  answer_zero : (pick : Pick) (ignoring : Bool) (j : ℕ) → nth_answer pick ignoring p j ≡ value_in pick ignoring (at p.rows) (0, (frame_at p j).1)
  answer_zero pick ignoring j = ap (value_in pick ignoring (at p.rows)) (frame_zero j)

  -- FIRST with NULLs ignored, where the last answer is NULL: the rows so far are all NULL
  null_rows : (j : ℕ) → nth_answer (FromStart 1) true p j ≡ None → (k : ℕ) → k < (frame_at p j).1 → at p.rows k ≡ None
  null_rows j h k u =
      let f = at p.rows in
      let n : ℕ = (frame_at p j).1 - 0 in
      let a : cell_of f (slice_get (ahead f 0 n) 0) ≡ None = sym (answer_zero (FromStart 1) true j) ∙ h in
      let none : slice_get (ahead f 0 n) 0 ≡ None = none_of _ (sym (found_some f 0 n 0 (slice_get (ahead f 0 n) 0) refl) ∙ ap is_some a) in
      none_null f 0 n none k (omega arith) (omega arith)

  -- FIRST with NULLs ignored, where the last answer is present: it stays
  first_stays : (i j : ℕ) → (frame_at p i).1 ≤ (frame_at p j).1 → is_some (nth_answer (FromStart 1) true p i) ≡ true → nth_answer (FromStart 1) true p i ≡ nth_answer (FromStart 1) true p j
  first_stays i j l h =
      let f = at p.rows in
      let m : ℕ = (frame_at p i).1 - 0 in
      let n : ℕ = (frame_at p j).1 - 0 in
      let s = some_of (slice_get (ahead f 0 m) 0) (sym (found_some f 0 m 0 (slice_get (ahead f 0 m) 0) refl) ∙ (ap is_some (sym (answer_zero (FromStart 1) true i)) ∙ h)) in
      let t : slice_get (ahead f 0 n) 0 ≡ Some s.0 = ahead_longer f 0 m n 0 s.0 (omega arith) s.1 in
      answer_zero (FromStart 1) true i ∙ (ap (cell_of f) (s.1 ∙ sym t) ∙ sym (answer_zero (FromStart 1) true j))

  -- NULLs respected, counted from the start: it stays once the frame holds so many rows
  start_stays : (m i j : ℕ) → m - 1 < (frame_at p i).1 → (frame_at p i).1 ≤ (frame_at p j).1 → nth_answer (FromStart m) false p i ≡ nth_answer (FromStart m) false p j
  start_stays m i j h l =
      let f = at p.rows in
      answer_zero (FromStart m) false i ∙ (ap (cell_of f) (start_in 0 (frame_at p i).1 (m - 1) (omega arith) ∙ sym (start_in 0 (frame_at p j).1 (m - 1) (omega arith))) ∙ sym (answer_zero (FromStart m) false j))

  -- NULLs respected, counted from the end: the row counted to moves on with the frame's end
  end_free : (m e j : ℕ) → e ≤ (frame_at p j).1 → (cell : ℕ → Option V) → Hides (e - m) p.rows (frame_at p j).1 cell → 0 < m → value_in (FromEnd m) false cell (frame_at p j) ≡ nth_answer (FromEnd m) false p j
  end_free m e j l cell hides pos_m =
      let b : ℕ = (frame_at p j).1 in
      ap (value_in (FromEnd m) false cell) (frame_zero j) ∙ (⊎_elim
      (λ lt. let o = sym (end_in 0 b (m - 1) (omega arith)) in
      ap (cell_of cell) (sym o) ∙ (⊎_elim (λ s. s) (λ s. absurd (omega (arith, s.0))) (hides (b - 1 - (m - 1)) (omega arith)) ∙ ap (cell_of (at p.rows)) o))
      (λ ge. let o = sym (end_out 0 b (m - 1) (omega arith)) in
      ap (cell_of cell) (sym o) ∙ ap (cell_of (at p.rows)) o)
      (cases_lt (m - 1) b) ∙ sym (answer_zero (FromEnd m) false j))

-- the row before row i, where its frame is not empty
last_row : {V : Type 0} (p : Partition V) (i : ℕ) → 0 < (frame_before p i).1 → (j : ℕ) × (i ≡ suc j) × (frame_before p i ≡ frame_at p j)
last_row p zero h = absurd (omega arith)
last_row p (suc j) h = (j, refl, refl)

-- settling at row i, whose last frame this is
module _ {V : Type 0} (h : NthValueState V) (p : Partition V) (i : ℕ) (z : FromZero p) where
  abbrev e : ℕ
  e = (frame_before p i).1

  first_null : Holding (FromStart 1) true h p i → 0 < e → h.last_answer ≡ None → Holding (FromStart 1) true (raised h (e - 1)) p i
  first_null d l none =
      let r = last_row p i l in
      let ends : e ≡ (frame_at p r.0).1 = ap (λ (f : Frame). f.1) r.2 in
      let null : (k : ℕ) → k < e → at p.rows k ≡ None = λ k u. null_rows p z r.0 (sym (d.last r.0 r.1) ∙ none) k (omega arith) in
      raised_holds (FromStart 1) true h p i d z (e - 1) (λ j i≤j f o cell hides. value_same (FromStart 1) true cell (at p.rows) (frame_at p j).0 (frame_at p j).1 (λ k b u. ⊎_elim (λ s. s) (λ s. s.1 ∙ sym (null k (omega (arith, s.0)))) (hides k u)))

  first_fixed : (ignoring : Bool) → Holding (FromStart 1) ignoring h p i → 0 < e → (ignoring && not (is_some h.last_answer)) ≡ false → Holding (FromStart 1) ignoring (fixed h (e - 1)) p i
  first_fixed false d l c =
      let r = last_row p i l in
      let ends : e ≡ (frame_at p r.0).1 = ap (λ (f : Frame). f.1) r.2 in
      fixed_holds (FromStart 1) false h p i d z (e - 1) r.0 r.1 (λ j u f o. start_stays p z 1 r.0 j (omega arith) (omega (arith, ends, later p i j u f o)))
  first_fixed true d l c =
      let r = last_row p i l in
      let ends : e ≡ (frame_at p r.0).1 = ap (λ (f : Frame). f.1) r.2 in
      let some : is_some h.last_answer ≡ true = grind (arith, nat_tests) in
      fixed_holds (FromStart 1) true h p i d z (e - 1) r.0 r.1 (λ j u f o. first_stays p z r.0 j (omega (arith, ends, later p i j u f o)) (ap is_some (sym (d.last r.0 r.1)) ∙ some))

  settles_first : (ignoring : Bool) → Holding (FromStart 1) ignoring h p i → (b c : Bool) → ltb (frame_before p i).0 e ≡ b → (ignoring && not (is_some h.last_answer)) ≡ c → Holding (FromStart 1) ignoring (cond b (cond c (raised h (e - 1)) (fixed h (e - 1))) h) p i
  settles_first ignoring d false c eb ec = d
  settles_first true d true true eb ec = first_null d (omega (arith, ltb-true (frame_before p i).0 e eb)) (none_of _ (grind (arith, nat_tests)))
  settles_first false d true true eb ec = let y : ◌≡◌ {A = ℕ} 0 1 = cc in absurd (omega arith)
  settles_first ignoring d true false eb ec = first_fixed ignoring d (omega (arith, ltb-true (frame_before p i).0 e eb)) ec

  settles_last : (m : ℕ) → 0 < m → Holding (FromEnd m) false h p i → Holding (FromEnd m) false (raised h (e - m)) p i
  settles_last m l d = raised_holds (FromEnd m) false h p i d z (e - m) (λ j u f o cell hides. end_free p z m e j (later p i j u f o) cell hides l)

  settles_start : (m : ℕ) → 0 < m → m ≤ e → 0 < i → Holding (FromStart m) false h p i → Holding (FromStart m) false (fixed h (e - 1)) p i
  settles_start m l le li d =
      let r = last_row p i (omega arith) in
      let ends : e ≡ (frame_at p r.0).1 = ap (λ (f : Frame). f.1) r.2 in
      fixed_holds (FromStart m) false h p i d z (e - 1) r.0 r.1 (λ j u f o. start_stays p z m r.0 j (omega arith) (omega (arith, ends, later p i j u f o)))

  settles_from_start : (n : ℕ) → Holding (FromStart (suc n)) false h p i → (b : Bool) → (leb (suc n) (e - (frame_before p i).0) && ltb (suc n) i) ≡ b → Holding (FromStart (suc n)) false (cond b (fixed h (e - 1)) h) p i
  settles_from_start n d false q = d
  settles_from_start n d true q =
      let a : suc n ≤ e - (frame_before p i).0 = grind (arith, nat_tests) in
      let b : suc n < i = grind (arith, nat_tests) in
      settles_start (suc n) (omega arith) (omega arith) (omega arith) d

  settles_from_end : (n : ℕ) → Holding (FromEnd (suc n)) false h p i → (b : Bool) → leb (suc n) (e - (frame_before p i).0) ≡ b → Holding (FromEnd (suc n)) false (cond b (raised h (e - suc n)) h) p i
  settles_from_end n d false q = d
  settles_from_end n d true q = settles_last (suc n) (omega arith) d

  settles_nth : (n : ℤ) → Holding (pick_of (Nth n)) false h p i → Holding (pick_of (Nth n)) false (settled_nth n h i (frame_before p i)) p i
  settles_nth (pos zero) d = d
  settles_nth (pos (suc n)) d = settles_from_start n d _ refl
  settles_nth (negsuc n) d = settles_from_end n d _ refl

  settles_here : (kind : NthValueKind) (ignoring : Bool) → Holding (pick_of kind) ignoring h p i → Holding (pick_of kind) ignoring (settled_by kind ignoring h i (frame_before p i)) p i
  settles_here First ignoring d = settles_first ignoring d _ _ refl refl
  settles_here Last false d = settles_last 1 (omega arith) d
  settles_here Last true d = d
  settles_here (Nth n) false d = settles_nth n d
  settles_here (Nth n) true d = d

pub settles_holds : {V : Type 0} (kind : NthValueKind) (ignoring : Bool) (h : NthValueState V) (p : Partition V) (i : ℕ) (last : Frame) → FromZero p → last ≡ frame_before p i → Holding (pick_of kind) ignoring h p i → Holding (pick_of kind) ignoring (settled_by kind ignoring h i last) p i
settles_holds kind ignoring h p i last z e d = subst (λ (f : Frame). Holding (pick_of kind) ignoring (settled_by kind ignoring h i f) p i) (sym e) (settles_here h p i z kind ignoring d)

-- the mark never falls
raised_rises : {V : Type 0} (h : NthValueState V) (m : ℕ) → h.mark ≤ (raised h m).mark
raised_rises h m = omega arith

fixed_rises : {V : Type 0} (h : NthValueState V) (m : ℕ) → h.mark ≤ (fixed h m).mark
fixed_rises h m = omega arith

rises_by : {V : Type 0} (b : Bool) (h f g : NthValueState V) → h.mark ≤ f.mark → h.mark ≤ g.mark → h.mark ≤ (cond b f g).mark
rises_by true h f g k l = k
rises_by false h f g k l = l

stays : {V : Type 0} (h : NthValueState V) → h.mark ≤ h.mark
stays h = omega arith

rises_nth : {V : Type 0} (n : ℤ) (h : NthValueState V) (i : ℕ) (last : Frame) → h.mark ≤ (settled_nth n h i last).mark
rises_nth (pos zero) h i last = stays h
rises_nth (pos (suc n)) h i last = rises_by (leb (suc n) (last.1 - last.0) && ltb (suc n) i) h (fixed h (last.1 - 1)) h (fixed_rises h (last.1 - 1)) (stays h)
rises_nth (negsuc n) h i last = rises_by (leb (suc n) (last.1 - last.0)) h (raised h (last.1 - suc n)) h (raised_rises h (last.1 - suc n)) (stays h)

pub settling_rises : {V : Type 0} (kind : NthValueKind) (ignoring : Bool) (h : NthValueState V) (i : ℕ) (last : Frame) → h.mark ≤ (settled_by kind ignoring h i last).mark
settling_rises First ignoring h i last =
    let e : ℕ = last.1 - 1 in
    let c : Bool = ignoring && not (is_some h.last_answer) in
    rises_by (ltb last.0 last.1) h (cond c (raised h e) (fixed h e)) h (rises_by c h (raised h e) (fixed h e) (raised_rises h e) (fixed_rises h e)) (stays h)
settling_rises Last false h i last = raised_rises h (last.1 - 1)
settling_rises Last true h i last = stays h
settling_rises (Nth n) false h i last = rises_nth n h i last
settling_rises (Nth n) true h i last = stays h
