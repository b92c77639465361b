-- A call on lists of cells leaves the pattern where it must not write.
use Rattle.std.proofs.Common.{◌≡◌, inl, inr, ℕ, ◌<◌, Bool, true, false, ◌&&◌, ◌||◌, T, length, is_some, nat_lt, Option, Some, None, slice_index_or, Result, Ok, refl, sym, ap, ◌∙◌, subst, arith}
use Rattle.std.specs.Option.{unwrap_or}
use Rattle.std.proofs.lemmas.Bool.{cases_lt}
use Rattle.column.specs.declared.fault.Fault.{Fault}
use Rattle.column.specs.Slots.{CellSlots, Filled, put_cell, written}
use Rattle.evaluator.specs.Meaning.{WholeCall}
use Rattle.drive.specs.Kept.{writable, HoldsFrom, MarksKept, ValuesKept}

left : (a b : Bool) → T a → T (a || b)
left true b h = tt
left false b h = absurd h

right : (a b : Bool) → T b → T (a || b)
right true b h = tt
right false b h = h

both : (a b : Bool) → T a → T b → T (a && b)
both true b h k = k
both false b h k = absurd h

below : (k n : ℕ) → k < n → T (nat_lt k n)
below k n h = grind (arith, h)

-- an answered row: a value is written, and NULL keeps the pattern
at_row : {V : Type 0} (same : V → V → Bool) (p : V) → T (same p p) → (o : Option V) (v old : V) (w : Bool) → (T (is_some o) → T w) → v ≡ unwrap_or o old → old ≡ p → T (w || same v p)
at_row same p refl_p (Some x) v old w written is kept = left w (same v p) (written tt)
at_row same p refl_p None v old w written is kept = right w (same v p) (subst (λ y. T (same y p)) (sym (is ∙ kept)) refl_p)

module _ {V : Type 0} (same : V → V → Bool) (p : V) (refl_p : T (same p p)) (answers : ℕ → Option V) (n count : ℕ) (s t : CellSlots V) (holds : HoldsFrom p s.values 0) (marked : (k : ℕ) → k < length s.marks → T (slice_index_or s.marks k false)) where
  module _ (filled : Filled answers n s t) (counted : count ≡ n) where
    filled_values : ValuesKept same p t.values t.marks count (length t.values)
    filled_values k h = elim (cases_lt k n) [
      | inl low ↦ at_row same p refl_p (answers k) (slice_index_or t.values k p) (slice_index_or s.values k p) (writable t.marks count k) (λ some. both (nat_lt k count) (slice_index_or t.marks k false) (below k count (omega (arith, low, counted))) (subst T (sym (filled.marks_at k low)) some)) (filled.values_at k p low) (holds k (omega arith))
      | inr far ↦ right (writable t.marks count k) (same (slice_index_or t.values k p) p) (subst (λ y. T (same y p)) (sym (filled.values_beyond k p far ∙ holds k (omega arith))) refl_p)
    ]

    filled_marks : MarksKept t.marks count (length t.marks)
    filled_marks k h far = subst T (sym (filled.marks_beyond k (omega (arith, far, counted)))) (marked k (omega (arith, h, filled.marks_long)))

  left_values : t ≡ s → ValuesKept same p t.values t.marks count (length t.values)
  left_values is k h = right (writable t.marks count k) (same (slice_index_or t.values k p) p) (subst (λ y. T (same y p)) (sym (ap (λ (u : CellSlots V). slice_index_or u.values k p) is ∙ holds k (omega arith))) refl_p)

  left_marks : t ≡ s → MarksKept t.marks count (length t.marks)
  left_marks is k h far = subst T (sym (ap (λ (u : CellSlots V). slice_index_or u.marks k false) is)) (marked k (subst (λ (u : CellSlots V). k < length u.marks) is h))

  pub cells_kept : (refusal : Option Fault) (r : Result (Unit {0}) Fault) → WholeCall put_cell refusal answers n s t r → (r ≡ Ok tt → Filled answers n s t) → (refusal ≡ None → count ≡ n) → ValuesKept same p t.values t.marks count (length t.values) × MarksKept t.marks count (length t.marks)
  cells_kept None r c filled counted = (filled_values (filled c.outcome) (counted refl), filled_marks (filled c.outcome) (counted refl))
  cells_kept (Some f) r c filled counted = (left_values c.slots, left_marks c.slots)
