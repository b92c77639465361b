-- What making fresh, a row call and settling give.
use Rattle.std.proofs.Common.{◌≡◌, ℕ, ◌+◌, ◌<◌, ◌≤◌, Bool, true, false, T, length, get_or, take, Ok, Option, Result, sym, refl, ap, ◌∙◌, subst, inl, inr, ⊎_elim, arith}
use Rattle.std.proofs.lemmas.Bool.{cases_lt, cases_Bool}
use Rattle.std.proofs.lemmas.Bool.Decides.{nat_tests}
use Rattle.column.specs.declared.fault.Fault.{Fault}
use Rattle.column.specs.declared.column.Window.{Window}
use Rattle.column.specs.Cells.{view}
use Rattle.partition.specs.Table.{Frame}
use Rattle.evaluator.specs.Meaning.{Partition, Alike, settles}
use Rattle.run.specs.Shown.{end_of, frame_at}
use Rattle.run.specs.Rows.{Handed, Asks, RowCall, SettleCall}
use Rattle.run.proofs.Seen.{seen_rows, seen_within, seen_frame, seen_view, hidden_view, given_ok}
use Rattle.nth_value.specs.declared.kind.NthValueKind.{NthValueKind}
use Rattle.nth_value.specs.declared.kind.Pick.{Pick}
use Rattle.nth_value.specs.declared.state.NthValueState.{NthValueState}
use Rattle.nth_value.specs.declared.NthValue.{NthValue}
use Rattle.nth_value.specs.Frames.{pick_of}
use Rattle.nth_value.specs.Settling.{answer_by, answered, settled_by}
use Rattle.nth_value.specs.Nth.{nth_answer, Hides, Holding, nth_meaning, holding, new_of}
use Rattle.nth_value.proofs.Holds.{fresh_holds, holds_on, answer_is}
use Rattle.nth_value.proofs.Settles.{settles_holds, settling_rises}

pub alike : {V : Type 0} (e : NthValue V) (h : NthValueState V) → Alike (nth_meaning e) (nth_meaning (holding e h))
alike e h = record { answer = λ p i. refl; settled = λ rows frames known i. refl }

-- a new one stands at row 0 of every partition
pub fresh_stands : {V : Type 0} (e : NthValue V) (kind : NthValueKind) (ignoring : Bool) → e ≡ new_of kind ignoring → (p : Partition V) → (nth_meaning e).stands p 0
fresh_stands e kind ignoring q p = subst (λ (x : NthValue _). (nth_meaning x).stands p 0) (sym q) (fresh_holds (pick_of kind) ignoring p)

-- settling
pub settle-call : {V : Type 0} (e : NthValue V) (i : ℕ) (last : Frame) (h : NthValueState V) → h ≡ settled_by e.kind e.ignore_nulls e.state i last → SettleCall nth_meaning true i last e (holding e h)
settle-call e i last h q = record {
  alike = alike e h;
  mark = subst (λ (x : NthValueState _). e.state.mark ≤ x.mark) (sym q) (settling_rises e.kind e.ignore_nulls e.state i last);
  stands = λ p d framed z ordered is. subst (λ (x : NthValueState _). Holding (pick_of e.kind) e.ignore_nulls x p i) (sym q) (settles_holds e.kind e.ignore_nulls e.state p i last z is d);
}

-- a row call of row i with this window and frame, which the window shows to its end unless the rows are known to be all
module _ {V : Type 0} (e : NthValue V) (i : ℕ) (w : Window V) (frame : Frame) (known : Bool) (h : Handed true e.state.mark w frame known) (below : i < end_of w) (reaches : known ≡ false → frame.1 ≤ end_of w) where
  abbrev pick : Pick
  pick = pick_of e.kind

  ends : frame.1 ≤ end_of w
  ends = ⊎_elim (λ k. h.inside tt (subst T (sym k) tt)) (λ k. reaches k) (cases_Bool known)

  module _ (p : Partition V) (q : Asks (nth_meaning e) true p i w frame known) where
    row_there : i < length p.rows
    row_there = omega (arith, below, seen_within (nth_meaning e) true e.state.mark i w frame known h p q)

    frame_there : i < length p.frames
    frame_there = omega (arith, row_there, q.framed)

    frame_is : frame ≡ frame_at p i
    frame_is = q.at_row tt row_there

    settled_seen : settles (nth_meaning e) p (end_of w) known i ≡ true
    settled_seen =
        let rows : length (take (end_of w) p.rows) ≡ end_of w = seen_rows (nth_meaning e) true e.state.mark i w frame known h p q in
        let last : (get_or (take (i + 1) p.frames) i (0, 0)).1 ≡ frame.1 = ap (λ (f : Frame). f.1) (seen_frame (nth_meaning e) true e.state.mark i w frame known h p q tt below) in
        grind (arith, nat_tests)

    -- the window hides no row of the frame from the mark on
    hides : Hides e.state.mark p.rows (frame_at p i).1 (view w)
    hides k u = ⊎_elim
        (λ lt. inr (omega (arith, lt, h.kept), hidden_view w k lt))
        (λ ge. inl (seen_view (nth_meaning e) true e.state.mark i w frame known h p q k ge (omega (arith, u, ends, ap (λ (f : Frame). f.1) frame_is))))
        (cases_lt k w.begin)

    answer_seen : answer_by pick e.ignore_nulls e.state (view w) frame ≡ nth_answer pick e.ignore_nulls p i
    answer_seen = ap (λ (f : Frame). answer_by pick e.ignore_nulls e.state (view w) f) frame_is ∙ answer_is pick e.ignore_nulls e.state p i q.stands frame_there q.ordered (view w) hides _ refl

    stands_on : (x : Option V) → x ≡ answer_by pick e.ignore_nulls e.state (view w) frame → Holding pick e.ignore_nulls (answered e.state x frame) p (i + 1)
    stands_on x ex = subst (λ (f : Frame). Holding pick e.ignore_nulls (answered e.state x f) p (i + 1)) (sym frame_is) (holds_on pick e.ignore_nulls e.state p i q.stands frame_there q.ordered x (ex ∙ answer_seen))

  pub answers : (x : Option V) → x ≡ answer_by pick e.ignore_nulls e.state (view w) frame → (h' : NthValueState V) → h' ≡ answered e.state x frame → RowCall nth_meaning true i w frame known e (holding e h') (Ok x)
  answers x ex h' eh = record {
    alike = alike e h';
    mark = omega (arith, ap (λ (g : NthValueState V). g.mark) eh);
    outcome = below;
    given = λ p q. given_ok (nth_meaning e) (nth_meaning (holding e h')) p i _ x (settled_seen p q) (ex ∙ answer_seen p q) (subst (λ (g : NthValueState V). Holding pick e.ignore_nulls g p (i + 1)) (sym eh) (stands_on p q x ex));
  }

-- by what the calls on a turn returned
pub handed_as : {V : Type 0} (mark : ℕ) (w v : Window V) (f g : Frame) (k l : Bool) → v ≡ w → g ≡ f → l ≡ k → Handed true mark w f k → Handed true mark v g l
handed_as mark w v f g k l ew ef ek h = subst (λ (x : Bool). Handed true mark v g x) (sym ek) (subst (λ (x : Frame). Handed true mark v x k) (sym ef) (subst (λ x. Handed true mark x f k) (sym ew) h))

pub call_as : {V : Type 0} (e e' : NthValue V) (i j : ℕ) (w v : Window V) (f g : Frame) (k l : Bool) (r : Result (Option V) Fault) → j ≡ i → v ≡ w → g ≡ f → l ≡ k → RowCall nth_meaning true j v g l e e' r → RowCall nth_meaning true i w f k e e' r
call_as e e' i j w v f g k l r ei ew ef ek c = subst (λ (x : Bool). RowCall nth_meaning true i w f x e e' r) ek (subst (λ (x : Frame). RowCall nth_meaning true i w x l e e' r) ef (subst (λ x. RowCall nth_meaning true i x g l e e' r) ew (subst (λ (x : ℕ). RowCall nth_meaning true x v g l e e' r) ei c)))
