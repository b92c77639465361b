-- The two ways that a call on a whole partition ends.
use Rattle.std.proofs.Common.{◌≡◌, ℕ, Bool, true, Some, None, Ok, List, length, slice_set, Option, Result, sym, refl, ap, ◌∙◌, subst}
use Rattle.std.specs.Result.{is_err}
use Rattle.column.specs.declared.fault.Fault.{Fault}
use Rattle.column.specs.Refusal.{passes, kept_or}
use Rattle.partition.specs.Table.{Input, row_count, whole_refusal}
use Rattle.column.specs.Slots.{CellSlots, Filled, listed, written, put_cell, cell_count}
use Rattle.column.proofs.Exits.{passed}
use Rattle.partition.proofs.Accepted.{whole_says}
use Rattle.column.proofs.Filled.{written_filled}
use Rattle.column.proofs.Listed.{written_listed}
use Rattle.evaluator.specs.Meaning.{WholeCall}

-- a refused call leaves the slots
pub refused_call : {A S : Type 0} (stored : S → ℕ → A → S) (refusal : Option Fault) (answers : ℕ → A) (n : ℕ) (s : S) (r : Result (Unit {0}) Fault) → r ≡ passes refusal → is_err r ≡ true → WholeCall stored refusal answers n s s r
refused_call stored None answers n s r e h = cc
refused_call stored (Some f) answers n s r e h = record { outcome = e; slots = refl }

-- an accepted call on lists of cells fills them
pub call_fills : {V : Type 0} (same : V → V → Bool) (wf wg : Bool) (x : Input V) (answers : ℕ → Option V) (s t : CellSlots V) (r : Result (Unit {0}) Fault) → WholeCall put_cell (whole_refusal same wf wg x (cell_count s)) answers (row_count x) s t r → r ≡ Ok tt → Filled answers (row_count x) s t
call_fills same wf wg x answers s t r c e =
    let ok : whole_refusal same wf wg x (cell_count s) ≡ None = passed (whole_refusal same wf wg x (cell_count s)) tt (sym e ∙ c.outcome) in
    subst (Filled answers (row_count x) s) (sym (c.slots ∙ ap (λ (y : Option Fault). kept_or y s (written put_cell answers s (row_count x))) ok)) (written_filled answers (row_count x) s (whole_says same wf wg x (cell_count s) ok).room)

-- on a list of numbers they are its front
pub call_lists : {V A : Type 0} (same : V → V → Bool) (wf wg : Bool) (x : Input V) (answers : ℕ → A) (s t : List A) (r : Result (Unit {0}) Fault) → WholeCall (λ l i a. slice_set l i a) (whole_refusal same wf wg x (length s)) answers (row_count x) s t r → r ≡ Ok tt → t ≡ listed answers (row_count x) s
call_lists {V} {A} same wf wg x answers s t r c e =
    let ok : whole_refusal same wf wg x (length s) ≡ None = passed (whole_refusal same wf wg x (length s)) tt (sym e ∙ c.outcome) in
    c.slots ∙ ap (λ (y : Option Fault). kept_or y s (written (λ (l : List A) i a. slice_set l i a) answers s (row_count x))) ok ∙ written_listed answers (row_count x) s (whole_says same wf wg x (length s) ok).room
