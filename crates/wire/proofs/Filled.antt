-- Lent lists, after answers were put in their places.
use Rattle.std.proofs.Common.{◌≡◌, ℕ, Bool, true, false, zero, suc, ◌<◌, ◌≤◌, ◌≢◌, get_or, set, Some, None, Ok, Option, sym, refl, ap, ◌∙◌, subst, ⊎_elim, arith, length-set, get_or-set_other, get_or-set_same}
use Rattle.std.proofs.lemmas.Bool.{cases_eq}
use Rattle.column.specs.declared.fault.Fault.{Fault}
use Rattle.column.specs.Slots.{written}
use Rattle.partition.specs.Table.{Input, row_count, whole_refusal}
use Rattle.partition.proofs.Accepted.{whole_says}
use Rattle.wire.specs.declared.stop.Stop.{Stop}
use Rattle.wire.specs.declared.stop.Stop.TheVariants as stop
use Rattle.wire.specs.declared.stop.Told.{Told}
use Rattle.wire.specs.declared.function.Function.{Function}
use Rattle.wire.specs.declared.function.Chosen.{Chosen}
use Rattle.wire.specs.declared.function.Chosen.TheVariants.{Shift, Nth}
use Rattle.wire.specs.Ends.{EndsBy, told_stop}
use Rattle.wire.specs.Functions.{choosing}
use Rattle.wire.specs.Kinds.{Coding}
use Rattle.wire.specs.Stops.{first_of, stopped, refused}
use Rattle.wire.specs.Whole.{Handed, handed_input, cell_family, read_stop, default_flaw, chosen_refusal, chosen_answers, chosen_stop, chosen_left, cells_stop, CellsCall}
use Rattle.wire.specs.Slots.{LentSlots, LentFilled, put_lent, lent_count, mark_of, value_of}

module _ {V N : Type 0} (numbers : V → N) where
  -- one answer more
  put : (answers : ℕ → Option V) (n : ℕ) (before after : LentSlots N) → n < lent_count before → LentFilled numbers answers n before after → (a : Option V) → a ≡ answers n → LentFilled numbers answers (suc n) before (put_lent numbers after n a)
  put answers n before after h f None e =
      record {
        marks_long = length-set after.marks n 0 ∙ f.marks_long;
        values_long = f.values_long;
        marks_at = λ k l. ⊎_elim
            (λ q. subst (λ (x : ℕ). get_or (set after.marks n 0) x 0 ≡ mark_of (answers x)) (sym q) (get_or-set_same after.marks n 0 0 (omega (arith, f.marks_long)) ∙ ap mark_of e))
            (λ q. let ne : k ≢ n = q in get_or-set_other after.marks n k 0 0 ne ∙ f.marks_at k (omega arith))
            (cases_eq k n);
        values_at = λ k d l. ⊎_elim
            (λ q. subst (λ (x : ℕ). get_or after.values x d ≡ value_of numbers (answers x) (get_or before.values x d)) (sym q) (f.values_beyond n d (omega arith) ∙ ap (λ (x : Option V). value_of numbers x (get_or before.values n d)) e))
            (λ q. f.values_at k d (omega arith))
            (cases_eq k n);
        marks_beyond = λ k l. let ne : k ≢ n = omega arith in get_or-set_other after.marks n k 0 0 ne ∙ f.marks_beyond k (omega arith);
        values_beyond = λ k d l. f.values_beyond k d (omega arith);
      }
  put answers n before after h f (Some v) e =
      record {
        marks_long = length-set after.marks n 1 ∙ f.marks_long;
        values_long = length-set after.values n (numbers v) ∙ f.values_long;
        marks_at = λ k l. ⊎_elim
            (λ q. subst (λ (x : ℕ). get_or (set after.marks n 1) x 0 ≡ mark_of (answers x)) (sym q) (get_or-set_same after.marks n 1 0 (omega (arith, f.marks_long)) ∙ ap mark_of e))
            (λ q. let ne : k ≢ n = q in get_or-set_other after.marks n k 1 0 ne ∙ f.marks_at k (omega arith))
            (cases_eq k n);
        values_at = λ k d l. ⊎_elim
            (λ q. subst (λ (x : ℕ). get_or (set after.values n (numbers v)) x d ≡ value_of numbers (answers x) (get_or before.values x d)) (sym q) (get_or-set_same after.values n (numbers v) d (omega (arith, f.values_long)) ∙ ap (λ (x : Option V). value_of numbers x (get_or before.values n d)) e))
            (λ q. let ne : k ≢ n = q in get_or-set_other after.values n k (numbers v) d ne ∙ f.values_at k d (omega arith))
            (cases_eq k n);
        marks_beyond = λ k l. let ne : k ≢ n = omega arith in get_or-set_other after.marks n k 1 0 ne ∙ f.marks_beyond k (omega arith);
        values_beyond = λ k d l. let ne : k ≢ n = omega arith in get_or-set_other after.values n k (numbers v) d ne ∙ f.values_beyond k d (omega arith);
      }

  pub written_lent : (answers : ℕ → Option V) (n : ℕ) (before : LentSlots N) → n ≤ lent_count before → LentFilled numbers answers n before (written (put_lent numbers) answers before n)
  unfolding written
  written_lent answers zero before h = record {
    marks_long = refl;
    values_long = refl;
    marks_at = λ k l. absurd (omega arith);
    values_at = λ k d l. absurd (omega arith);
    marks_beyond = λ k l. refl;
    values_beyond = λ k d l. refl;
  }
  written_lent answers (suc n) before h = put answers n before (written (put_lent numbers) answers before n) (omega arith) (written_lent answers n before (omega arith)) (answers n) refl

no_fault : (a : Option Fault) → refused a ≡ None → a ≡ None
no_fault None e = refl
no_fault (Some f) e = cc

second : (a b : Option Stop) → first_of a b ≡ None → b ≡ None
second None b e = e
second (Some s) b e = cc

has_room : {V : Type 0} (same : V → V → Bool) (e : Chosen V) (x : Input V) (slots : ℕ) → refused (chosen_refusal same e x slots) ≡ None → row_count x ≤ slots
has_room same (Shift e) x slots h = (whole_says same false false x slots (no_fault (whole_refusal same false false x slots) h)).room
has_room same (Nth e) x slots h = (whole_says same true false x slots (no_fault (whole_refusal same true false x slots) h)).room

-- the lists that a call for cells leaves where it is not refused
module _ {V N : Type 0} (k : Coding V N) (same : V → V → Bool) (f : Function) (default : N) (x : Handed N) (before after : LentSlots N) (t : Told) (accepted : t.refused ≡ 0) where
  by_none : (stop : Option Stop) (good : Type 0) → EndsBy told_stop stop before after t good → (stop ≡ None) × good
  by_none None good g = (refl, g)
  by_none (Some s) good g = absurd (omega (arith, accepted, ap (λ (z : Told). z.refused) g.0))

  left_so : (e : Chosen V) → choosing f (k.decoded default) ≡ Ok e → cells_stop k same f default x (lent_count before) ≡ None → after ≡ chosen_left k (choosing f (k.decoded default)) (handed_input k x) before → LentFilled k.encoded (chosen_answers e (handed_input k x)) (row_count (handed_input k x)) before after
  left_so e q h l =
      let c : chosen_stop same (Ok e) (handed_input k x) (lent_count before) ≡ None =
      sym (ap (λ z. chosen_stop same z (handed_input k x) (lent_count before)) q) ∙ second (stopped stop.Function (default_flaw k default)) _ (second (read_stop k cell_family f x.values x.marks) _ h) in
      subst (LentFilled k.encoded (chosen_answers e (handed_input k x)) (row_count (handed_input k x)) before) (sym (l ∙ ap (λ z. chosen_left k z (handed_input k x) before) q))
      (written_lent k.encoded (chosen_answers e (handed_input k x)) (row_count (handed_input k x)) before (has_room same e (handed_input k x) (lent_count before) c))

  pub cells_filled : CellsCall k same f default x before after t → (e : Chosen V) → choosing f (k.decoded default) ≡ Ok e → LentFilled k.encoded (chosen_answers e (handed_input k x)) (row_count (handed_input k x)) before after
  cells_filled c e q = ⊎_elim
      (λ m. absurd (omega (arith, accepted, ap (λ (z : Told). z.refused) m.0)))
      (λ g. let b = by_none (cells_stop k same f default x (lent_count before)) _ g in left_so e q b.0 b.1.1)
      c
