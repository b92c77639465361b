-- For the proofs of evaluators: what a row call sees of a partition that it asks of.
use Rattle.std.proofs.Common.{◌≡◌, ℕ, zero, suc, ◌+◌, ◌-◌, ◌<◌, ◌≤◌, Bool, true, false, T, ltb, length, get_or, take, drop, None, Ok, Err, sym, refl, ap, ◌∙◌, subst, add-one, arith}
use Rattle.std.proofs.lemmas.Bool.{cond-true, cond-false, lt-ltb, le-ltb}
use Rattle.std.proofs.lemmas.List.{length-take-le, get_or-take, get_or-drop}
use Rattle.column.specs.declared.fault.Fault.TheVariants.{TooEarly}
use Rattle.column.specs.declared.column.Window.{Window}
use Rattle.column.specs.Cells.{view}
use Rattle.evaluator.specs.Meaning.{Partition}
use Rattle.partition.specs.Table.{Frame}
use Rattle.run.specs.Shown.{Ordered, frame_at, frame_before, shown, end_of}
use Rattle.evaluator.specs.Meaning.{Meaning}
use Rattle.run.specs.Rows.{Handed, Asks, Given}
use Rattle.column.proofs.Cells.{length-cells}

-- the last frame lies at or before the next row's
pub before_at : {V : Type 0} (p : Partition V) (i : ℕ) → Ordered p (i + 1) → i < length p.frames → ((frame_before p i).0 ≤ (frame_at p i).0) × ((frame_before p i).1 ≤ (frame_at p i).1)
before_at p zero o h = (omega arith, omega arith)
before_at p (suc n) o h = (o.starts n (suc n) (omega arith) (omega arith) h, o.ends n (suc n) (omega arith) (omega arith) h)

pub at_next : {V : Type 0} (p : Partition V) (i : ℕ) → frame_before p (i + 1) ≡ frame_at p i
at_next p i = ap (λ (n : ℕ). frame_before p n) (add-one i)

module _ {V A : Type 0} (m : Meaning V A) (wants : Bool) (mark i : ℕ) (w : Window V) (frame : Frame) (known : Bool) (h : Handed wants mark w frame known) (p : Partition V) (q : Asks m wants p i w frame known) where
  pub seen_length : length (shown w) ≡ length w.rows.values.now
  seen_length = length-cells w.rows.values.now w.rows.marks.now h.lengths

  -- the window's end is no row past the partition's
  pub seen_within : end_of w ≤ length p.rows
  seen_within = omega (arith, q.shows.within, seen_length)

  -- the first rows up to the window's end are as many
  pub seen_rows : length (take (end_of w) p.rows) ≡ end_of w
  seen_rows = length-take-le (end_of w) p.rows seen_within

  -- the last of the frames up to row i is the one handed over
  pub seen_frame : T wants → i < end_of w → get_or (take (i + 1) p.frames) i (0, 0) ≡ frame
  seen_frame t lt = get_or-take (i + 1) p.frames i (0, 0) (omega arith) ∙ sym (q.at_row t (omega (arith, seen_within)))

  -- a cell of the window is the partition's
  pub seen_cell : (s : ℕ) → w.begin ≤ s → s < end_of w → get_or (shown w) (s - w.begin) None ≡ get_or p.rows s None
  seen_cell s b l =
      let u : get_or (shown w) (s - w.begin) None ≡ get_or (take (length (shown w)) (drop w.begin p.rows)) (s - w.begin) None = ap (λ x. get_or x (s - w.begin) None) q.shows.same in
      let v : get_or (take (length (shown w)) (drop w.begin p.rows)) (s - w.begin) None ≡ get_or (drop w.begin p.rows) (s - w.begin) None = get_or-take (length (shown w)) (drop w.begin p.rows) (s - w.begin) None (omega (arith, seen_length)) in
      let y : w.begin + (s - w.begin) ≡ s = omega arith in
      u ∙ (v ∙ (get_or-drop w.begin p.rows (s - w.begin) None ∙ ap (λ (n : ℕ). get_or p.rows n None) y))

  -- as the window is read
  pub seen_view : (k : ℕ) → w.begin ≤ k → k < end_of w → view w k ≡ get_or p.rows k None
  seen_view k b u = cond-false (ltb k w.begin) None (get_or (shown w) (k - w.begin) None) (le-ltb k w.begin b) ∙ seen_cell k b u

-- a row before the window reads as NULL
pub hidden_view : {V : Type 0} (w : Window V) (k : ℕ) → k < w.begin → view w k ≡ None
hidden_view w k h = cond-true (ltb k w.begin) None (get_or (shown w) (k - w.begin) None) (lt-ltb k w.begin h)

-- what a row call gives, once it is known whether the row is settled
pub given_ok : {V A : Type 0} (m n : Meaning V A) (p : Partition V) (i : ℕ) (s : Bool) (x : A) → s ≡ true → x ≡ m.answer p i → n.stands p (i + 1) → Given m n p i s (Ok x)
given_ok m n p i s x e a st = subst (λ (y : Bool). Given m n p i y (Ok x)) (sym e) (ap Ok a, st)

pub given_early : {V A : Type 0} (m n : Meaning V A) (p : Partition V) (i : ℕ) (s : Bool) → s ≡ false → Given m n p i s (Err (TooEarly i))
given_early m n p i s e = subst (λ (y : Bool). Given m n p i y (Err (TooEarly i))) (sym e) refl
