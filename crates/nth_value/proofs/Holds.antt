-- What is held, one row on and after settling.
use Rattle.std.proofs.Common.{◌≡◌, ℕ, zero, suc, ◌+◌, ◌<◌, ◌≤◌, max, Bool, ◌⊎◌, length, Some, None, Option, unwrap_or, sym, refl, ap, ◌∙◌, inl, inr, ⊎_elim, arith}
use Rattle.std.proofs.lemmas.Bool.{cases_lt}
use Rattle.partition.specs.Table.{Frame}
use Rattle.evaluator.specs.Meaning.{Partition}
use Rattle.run.specs.Shown.{FromZero, Ordered, frame_at, frame_before}
use Rattle.run.proofs.Seen.{before_at, at_next}
use Rattle.present.specs.Present.{at}
use Rattle.nth_value.specs.declared.kind.Pick.{Pick}
use Rattle.nth_value.specs.declared.state.NthValueState.{NthValueState}
use Rattle.nth_value.specs.Frames.{value_in}
use Rattle.nth_value.specs.Settling.{start, answered, raised, fixed}
use Rattle.nth_value.specs.Nth.{nth_answer, Hides, Holding}
use Rattle.nth_value.specs.Local.{value_same}

-- nothing is hidden from a frame that begins at the mark or later
unhidden : {V : Type 0} (pick : Pick) (ignoring : Bool) (p : Partition V) (j mark : ℕ) (cell : ℕ → Option V) → mark ≤ (frame_at p j).0 → Hides mark p.rows (frame_at p j).1 cell → value_in pick ignoring cell (frame_at p j) ≡ nth_answer pick ignoring p j
unhidden pick ignoring p j mark cell l h = value_same pick ignoring cell (at p.rows) (frame_at p j).0 (frame_at p j).1 (λ k b u. ⊎_elim (λ e. e) (λ d. absurd (omega (arith, d.0))) (h k u))

-- a row is held at row 0 of every partition
pub fresh_holds : {V : Type 0} (pick : Pick) (ignoring : Bool) (p : Partition V) → Holding pick ignoring start p 0
fresh_holds pick ignoring p = record {
  last = λ j e. absurd (omega arith);
  mark = inl refl;
  fixed = λ x e. let z : ◌≡◌ {A = ℕ} 0 1 = cc in absurd (omega arith);
  kept = λ e j l f o cell h. unhidden pick ignoring p j 0 cell (omega arith) h;
}

-- one row on: the row's answer is held, and the mark is at least its frame's start
module _ {V : Type 0} (pick : Pick) (ignoring : Bool) (h : NthValueState V) (p : Partition V) (i : ℕ) (d : Holding pick ignoring h p i) (lt : i < length p.frames) (o : Ordered p (i + 1)) (x : Option V) (is : x ≡ nth_answer pick ignoring p i) where
  kept_on : h.finalized_result ≡ None → (j : ℕ) → i + 1 ≤ j → j < length p.frames → Ordered p (j + 1) → (cell : ℕ → Option V) → Hides (max h.mark (frame_at p i).0) p.rows (frame_at p j).1 cell → value_in pick ignoring cell (frame_at p j) ≡ nth_answer pick ignoring p j
  kept_on e j l f oj cell hides =
      let starts : (frame_at p i).0 ≤ (frame_at p j).0 = oj.starts i j (omega arith) (omega arith) f in
      ⊎_elim
      (λ u. d.kept e j (omega arith) f oj cell (λ k b. ⊎_elim (λ s. inl s) (λ s. inr (omega (arith, s.0, u), s.1)) (hides k b)))
      (λ u. unhidden pick ignoring p j (max h.mark (frame_at p i).0) cell (omega arith) hides)
      (cases_lt (frame_at p i).0 h.mark)

  mark_on : (max h.mark (frame_at p i).0 ≡ (frame_before p (i + 1)).0) ⊎ FromZero p
  mark_on = ⊎_elim
      (λ e. inl (omega (arith, e, (before_at p i o lt).0, ap (λ (f : Frame). f.0) (at_next p i))))
      (λ z. inr z)
      d.mark

  pub holds_on : Holding pick ignoring (answered h x (frame_at p i)) p (i + 1)
  holds_on = record {
    last = λ j e. let s : i ≡ j = omega arith in is ∙ ap (nth_answer pick ignoring p) s;
    mark = mark_on;
    fixed = λ y e j l. d.fixed y e j (omega arith);
    kept = kept_on;
  }

-- the answer of row i, by what is held and the cells shown
pub answer_is : {V : Type 0} (pick : Pick) (ignoring : Bool) (h : NthValueState V) (p : Partition V) (i : ℕ) → Holding pick ignoring h p i → i < length p.frames → Ordered p (i + 1) → (cell : ℕ → Option V) → Hides h.mark p.rows (frame_at p i).1 cell → (y : Option (Option V)) → h.finalized_result ≡ y → unwrap_or y (value_in pick ignoring cell (frame_at p i)) ≡ nth_answer pick ignoring p i
answer_is pick ignoring h p i d lt o cell hides None e = d.kept e i (omega arith) lt o cell hides
answer_is pick ignoring h p i d lt o cell hides (Some x) e = d.fixed x e i (omega arith) lt o

-- later frames end no earlier than the last one
pub later : {V : Type 0} (p : Partition V) (i j : ℕ) → i ≤ j → j < length p.frames → Ordered p (j + 1) → (frame_before p i).1 ≤ (frame_at p j).1
later p zero j l f o = omega arith
later p (suc n) j l f o = o.ends n j (omega arith) (omega arith) f

-- settling at row i of a partition whose frames all begin at 0
module _ {V : Type 0} (pick : Pick) (ignoring : Bool) (h : NthValueState V) (p : Partition V) (i : ℕ) (d : Holding pick ignoring h p i) (z : FromZero p) where
  -- the mark raised, where later answers can do without the rows below it
  pub raised_holds : (m : ℕ) → ((j : ℕ) → i ≤ j → j < length p.frames → Ordered p (j + 1) → (cell : ℕ → Option V) → Hides m p.rows (frame_at p j).1 cell → value_in pick ignoring cell (frame_at p j) ≡ nth_answer pick ignoring p j) → Holding pick ignoring (raised h m) p i
  raised_holds m free = record {
    last = d.last;
    mark = inr z;
    fixed = d.fixed;
    kept = λ n j l f o cell hides. ⊎_elim
        (λ u. d.kept n j l f o cell (λ k b. ⊎_elim (λ s. inl s) (λ s. inr (omega (arith, s.0, u), s.1)) (hides k b)))
        (λ u. free j l f o cell (λ k b. ⊎_elim (λ s. inl s) (λ s. inr (omega (arith, s.0, u), s.1)) (hides k b)))
        (cases_lt m h.mark);
  }

  -- the last answer fixed, where later answers are the same
  pub fixed_holds : (m j₀ : ℕ) → i ≡ suc j₀ → ((j : ℕ) → i ≤ j → j < length p.frames → Ordered p (j + 1) → nth_answer pick ignoring p j₀ ≡ nth_answer pick ignoring p j) → Holding pick ignoring (fixed h m) p i
  fixed_holds m j₀ q same = record {
    last = d.last;
    mark = inr z;
    fixed = λ x y j l f o. let s : h.last_answer ≡ x = cc in sym s ∙ (d.last j₀ q ∙ same j l f o);
    kept = λ n. let y : ◌≡◌ {A = ℕ} 0 1 = cc in absurd (omega arith);
  }
