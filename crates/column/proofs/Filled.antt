-- Lists of cells, after answers were put in their places.
use Rattle.std.proofs.Common.{◌≡◌, ℕ, zero, suc, ◌<◌, ◌≤◌, true, false, ◌≢◌, get_or, set, is_some, Some, None, Option, unwrap_or, sym, refl, ap, ◌∙◌, subst, ⊎_elim, arith, length-set, get_or-set_other, get_or-set_same}
use Rattle.std.proofs.lemmas.Bool.{cases_eq}
use Rattle.column.specs.Slots.{CellSlots, Filled, put_cell, cell_count, written}

module _ {V : Type 0} where
  -- one answer more
  put : (answers : ℕ → Option V) (n : ℕ) (before after : CellSlots V) → n < cell_count before → Filled answers n before after → (a : Option V) → a ≡ answers n → Filled answers (suc n) before (put_cell after n a)
  put answers n before after h f None e =
      record {
        marks_long = length-set after.marks n false ∙ f.marks_long;
        values_long = f.values_long;
        marks_at = λ k l. ⊎_elim
            (λ q. subst (λ (x : ℕ). get_or (set after.marks n false) x false ≡ is_some (answers x)) (sym q) (get_or-set_same after.marks n false false (omega (arith, f.marks_long)) ∙ ap is_some e))
            (λ q. let ne : k ≢ n = q in get_or-set_other after.marks n k false false ne ∙ f.marks_at k (omega arith))
            (cases_eq k n);
        values_at = λ k d l. ⊎_elim
            (λ q. subst (λ (x : ℕ). get_or after.values x d ≡ unwrap_or (answers x) (get_or before.values x d)) (sym q) (f.values_beyond n d (omega arith) ∙ ap (λ (x : Option V). unwrap_or x (get_or before.values n d)) e))
            (λ q. f.values_at k d (omega arith))
            (cases_eq k n);
        marks_beyond = λ k l. let ne : k ≢ n = omega arith in get_or-set_other after.marks n k false false ne ∙ f.marks_beyond k (omega arith);
        values_beyond = λ k d l. f.values_beyond k d (omega arith);
      }
  put answers n before after h f (Some v) e =
      record {
        marks_long = length-set after.marks n true ∙ f.marks_long;
        values_long = length-set after.values n v ∙ f.values_long;
        marks_at = λ k l. ⊎_elim
            (λ q. subst (λ (x : ℕ). get_or (set after.marks n true) x false ≡ is_some (answers x)) (sym q) (get_or-set_same after.marks n true false (omega (arith, f.marks_long)) ∙ ap is_some e))
            (λ q. let ne : k ≢ n = q in get_or-set_other after.marks n k true false ne ∙ f.marks_at k (omega arith))
            (cases_eq k n);
        values_at = λ k d l. ⊎_elim
            (λ q. subst (λ (x : ℕ). get_or (set after.values n v) x d ≡ unwrap_or (answers x) (get_or before.values x d)) (sym q) (get_or-set_same after.values n v d (omega (arith, f.values_long)) ∙ ap (λ (x : Option V). unwrap_or x (get_or before.values n d)) e))
            (λ q. let ne : k ≢ n = q in get_or-set_other after.values n k v d ne ∙ f.values_at k d (omega arith))
            (cases_eq k n);
        marks_beyond = λ k l. let ne : k ≢ n = omega arith in get_or-set_other after.marks n k true false ne ∙ f.marks_beyond k (omega arith);
        values_beyond = λ k d l. let ne : k ≢ n = omega arith in get_or-set_other after.values n k v d ne ∙ f.values_beyond k d (omega arith);
      }

  pub written_filled : (answers : ℕ → Option V) (n : ℕ) (before : CellSlots V) → n ≤ cell_count before → Filled answers n before (written put_cell answers before n)
  unfolding written
  written_filled answers zero before h = record {
    marks_long = refl;
    values_long = refl;
    marks_at = λ k l. absurd (omega arith);
    values_at = λ k d l. absurd (omega arith);
    marks_beyond = λ k l. refl;
    values_beyond = λ k d l. refl;
  }
  written_filled answers (suc n) before h = put answers n before (written put_cell answers before n) (omega arith) (written_filled answers n before (omega arith)) (answers n) refl
