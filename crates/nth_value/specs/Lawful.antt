-- The four laws of FIRST, LAST and NTH.
use Rattle.std.specs.Prelude.{◌≡◌, ℕ, ◌+◌, ◌<◌, ◌≤◌, Bool, true, false, T, List, ◌++◌, length, get_or, take, None, nat_le, slice_index_or, refl}
use Rattle.std.proofs.Common.{sym, ◌∙◌, ap, arith}
use Rattle.std.proofs.lemmas.List.{length-append, length-take, take_all, get_or-take}
use Rattle.std.proofs.lemmas.Bool.{leb-true, le-leb}
use Rattle.partition.specs.Table.{Frame}
use Rattle.evaluator.specs.Meaning.{Partition, Laws}
use Rattle.evaluator.proofs.Settles.{settled_says, settled_by}
use Rattle.run.specs.Shown.{frame_at}
use Rattle.present.specs.Present.{at}
use Rattle.nth_value.specs.declared.kind.Pick.{Pick}
use Rattle.nth_value.specs.declared.NthValue.{NthValue}
use Rattle.nth_value.specs.Frames.{pick_of, value_in}
use Rattle.nth_value.specs.Nth.{frame_settled, nth_answer, nth_meaning}
use Rattle.nth_value.specs.Local.{value_same}

-- the frame of row i, of the frames up to it
pub frame-up_to : {V : Type 0} (p : Partition V) (i : ℕ) → slice_index_or (take (i + 1) p.frames) i (0, 0) ≡ frame_at p i
frame-up_to p i = get_or-take (i + 1) p.frames i (0, 0) (omega arith)

same-frame : {V : Type 0} (p q : Partition V) (i : ℕ) → take (i + 1) p.frames ≡ take (i + 1) q.frames → frame_at p i ≡ frame_at q i
same-frame p q i e = sym (frame-up_to p i) ∙ (ap (λ (fs : List Frame). get_or fs i (0, 0)) e ∙ frame-up_to q i)

same-cells : {V : Type 0} (p q : Partition V) (a k : ℕ) → take a p.rows ≡ take a q.rows → k < a → at p.rows k ≡ at q.rows k
same-cells p q a k e h = sym (get_or-take a p.rows k None h) ∙ (ap (λ xs. get_or xs k None) e ∙ get_or-take a q.rows k None h)

nth_local : {V : Type 0} (pick : Pick) (ignoring : Bool) (p q : Partition V) (a : ℕ) (known : Bool) (i : ℕ) → take a p.rows ≡ take a q.rows → take (i + 1) p.frames ≡ take (i + 1) q.frames → (T known → (length p.rows ≡ a) × (length q.rows ≡ a)) → T (frame_settled (take a p.rows) (take (i + 1) p.frames) known i) → nth_answer pick ignoring p i ≡ nth_answer pick ignoring q i
nth_local pick ignoring p q a true i er ef len h =
    let l = len tt in
    let rows : p.rows ≡ q.rows = sym (take_all a p.rows (omega arith)) ∙ (er ∙ take_all a q.rows (omega arith)) in
    ap (λ xs. value_in pick ignoring (at xs) (frame_at p i)) rows ∙ ap (value_in pick ignoring (at q.rows)) (same-frame p q i ef)
nth_local pick ignoring p q a false i er ef len h =
    let front = take a p.rows in
    let s = settled_says i (length front) false (nat_le (get_or (take (i + 1) p.frames) i (0, 0)).1 (length front)) h in
    let e : (get_or (take (i + 1) p.frames) i (0, 0)).1 ≤ length front = leb-true _ (length front) (s.1 refl) in
    value_same pick ignoring (at p.rows) (at q.rows) (frame_at p i).0 (frame_at p i).1 (λ k l u. same-cells p q a k er (omega (arith, e, u, ap (λ (f : Frame). f.1) (frame-up_to p i), length-take a p.rows))) ∙ ap (value_in pick ignoring (at q.rows)) (same-frame p q i ef)

pub nth_lawful : {V : Type 0} (e : NthValue V) → Laws (nth_meaning e)
nth_lawful e = record {
  below = λ rows frames known i h. (settled_says i (length rows) known (nat_le (get_or frames i (0, 0)).1 (length rows)) h).0;
  at_total = λ rows frames i h. settled_by i (length rows) true (nat_le (get_or frames i (0, 0)).1 (length rows)) h refl;
  grows = λ rows more frames i h.
      let s = settled_says i (length rows) false (nat_le (get_or frames i (0, 0)).1 (length rows)) h in
      let e : (get_or frames i (0, 0)).1 ≤ length rows = leb-true _ (length rows) (s.1 refl) in
      settled_by i (length (rows ++ more)) false (nat_le (get_or frames i (0, 0)).1 (length (rows ++ more))) (omega (arith, s.0, length-append rows more)) (le-leb _ (length (rows ++ more)) (omega (arith, e, length-append rows more)));
  local = λ p q a known i er ef len h. nth_local (pick_of e.kind) e.ignore_nulls p q a known i er ef len h;
}
