-- The four laws of a shift.
use Rattle.std.specs.Prelude.{◌≡◌, ℕ, Bool, true, false, T, ◌++◌, length, take, Option, refl}
use Rattle.std.proofs.Common.{sym, ◌∙◌, ap, subst, arith}
use Rattle.std.proofs.lemmas.List.{length-append, take_all}
use Rattle.evaluator.specs.Meaning.{Partition, Laws}
use Rattle.lead_lag.specs.declared.WindowShift.{WindowShift}
use Rattle.lead_lag.specs.declared.offset.Way.{Way}
use Rattle.lead_lag.specs.Offset.{way_of}
use Rattle.lead_lag.specs.Shift.{Proper, shifted, reaches, shift_settled, shift_meaning}
use Rattle.evaluator.proofs.Settles.{settled_says, settled_by}
use Rattle.lead_lag.specs.Fronts.{way_proper, Front, front_take, front_append, reaches_front, answer_front}

shift_local : {V : Type 0} (way : Way) (ignoring : Bool) (d : Option V) → Proper way → (p q : Partition V) (a : ℕ) (known : Bool) (i : ℕ) → take a p.rows ≡ take a q.rows → (T known → (length p.rows ≡ a) × (length q.rows ≡ a)) → T (shift_settled way ignoring (take a p.rows) known i) → shifted way ignoring d p.rows i ≡ shifted way ignoring d q.rows i
shift_local way ignoring d pr p q a true i er len h =
    let l = len tt in
    let rows : p.rows ≡ q.rows = sym (take_all a p.rows (omega arith)) ∙ (er ∙ take_all a q.rows (omega arith)) in
    ap (λ x. shifted way ignoring d x i) rows
shift_local way ignoring d pr p q a false i er len h =
    let s = settled_says i (length (take a p.rows)) false (reaches way ignoring (take a p.rows) i) h in
    let q_front : Front (take a p.rows) q.rows = subst (λ x. Front x q.rows) (sym er) (front_take a q.rows) in
    sym (answer_front (take a p.rows) p.rows (front_take a p.rows) i s.0 way ignoring d pr (s.1 refl)) ∙ answer_front (take a p.rows) q.rows q_front i s.0 way ignoring d pr (s.1 refl)

pub shift_lawful : {V : Type 0} (e : WindowShift V) → Laws (shift_meaning e)
shift_lawful e = record {
  below = λ rows frames known i h. (settled_says i (length rows) known (reaches (way_of e.shift_offset) e.ignore_nulls rows i) h).0;
  at_total = λ rows frames i h. settled_by i (length rows) true (reaches (way_of e.shift_offset) e.ignore_nulls rows i) h refl;
  grows = λ rows more frames i h.
      let s = settled_says i (length rows) false (reaches (way_of e.shift_offset) e.ignore_nulls rows i) h in
      settled_by i (length (rows ++ more)) false (reaches (way_of e.shift_offset) e.ignore_nulls (rows ++ more) i) (omega (arith, s.0, length-append rows more)) (reaches_front rows (rows ++ more) (front_append rows more) i s.0 (way_of e.shift_offset) e.ignore_nulls (way_proper e.shift_offset) (s.1 refl));
  local = λ p q a known i er ef len h. shift_local (way_of e.shift_offset) e.ignore_nulls e.default_value (way_proper e.shift_offset) p q a known i er len h;
}
