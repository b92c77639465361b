-- What a call tells, from what it left.
use Rattle.std.proofs.Common.{◌≡◌, inl, inr, ℕ, ◌+◌, ◌-◌, ◌<◌, Bool, List, ◌++◌, length, take, drop, slice_index_or, slice_set, Option, Some, None, Result, Ok, Err, refl, sym, ap, ◌∙◌, arith}
use Rattle.std.proofs.Math.ListN.{get_or-eq_default}
use Rattle.std.proofs.Math.Seq.{take-append_seam}
use Rattle.std.proofs.lemmas.Bool.{cases_lt}
use Rattle.std.proofs.lemmas.List.{get_or-drop, get_or-append-add}
use Rattle.column.specs.declared.fault.Fault.{Fault}
use Rattle.column.specs.Slots.{listed}
use Rattle.partition.specs.Table.{Input, whole_refusal}
use Rattle.evaluator.specs.Meaning.{Meaning, WholeCall}
use Rattle.column.specs.Refusal.{yields, passes, kept_or}
use Rattle.drive.specs.Kept.{HoldsFrom}
use Rattle.drive.specs.Outcomes.{answers_text, refusal_text, told_text}
use Rattle.drive.specs.Whole.{row_answers, whole_text}

failed : {X : Type 0} (x : X) (refusal : Option Fault) (f : Fault) → Err f ≡ yields x refusal → refusal ≡ Some f
failed x None f e = cc
failed x (Some g) f e = cc

passed : {X : Type 0} (x y : X) (refusal : Option Fault) → Ok y ≡ yields x refusal → refusal ≡ None
passed x y None e = refl
passed x y (Some g) e = cc

-- a refusal that was given is the one that there is
pub refused : {X A : Type 0} (text : A → List ℕ) (x : X) (refusal : Option Fault) (r : Result X Fault) (f : Fault) (answers : List A) → r ≡ yields x refusal → r ≡ Err f → refusal_text f ≡ told_text text refusal answers
refused text x refusal r f answers is e = ap (λ y. told_text text y answers) (sym (failed x refusal f (sym e ∙ is)))

-- and where none was given there is none
pub accepted : {X : Type 0} (x y : X) (refusal : Option Fault) (r : Result X Fault) → r ≡ yields x refusal → r ≡ Ok y → refusal ≡ None
accepted x y refusal r is e = passed x y refusal (sym e ∙ is)

pub answered : {A : Type 0} (text : A → List ℕ) (refusal : Option Fault) (found answers : List A) → refusal ≡ None → found ≡ answers → answers_text text found ≡ told_text text refusal answers
answered text refusal found answers none same = ap (answers_text text) same ∙ ap (λ y. told_text text y answers) (sym none)

pub all_hold : {A : Type 0} (p : A) (n : ℕ) (s : List A) → length s ≡ n → ((k : ℕ) → k < n → slice_index_or s k p ≡ p) → HoldsFrom p s 0
all_hold p n s long each k h = elim (cases_lt k n) [
  | inl low ↦ each k low
  | inr far ↦ get_or-eq_default s p (omega (arith, long, far))
]

front_holds : {A : Type 0} (p : A) (n : ℕ) (front s : List A) → length front ≡ n → HoldsFrom p s 0 → HoldsFrom p (front ++ drop n s) n
front_holds p n front s long holds k h =
    let there : k ≡ length front + (k - n) = omega (arith, long, h) in
    let back : n + (k - n) ≡ k = omega (arith, h) in
    ap (λ i. slice_index_or (front ++ drop n s) i p) there
    ∙ get_or-append-add front (drop n s) (k - n) p
    ∙ get_or-drop n s (k - n) p
    ∙ ap (λ i. slice_index_or s i p) back
    ∙ holds k (omega arith)

-- what a call on a list of the pattern leaves behind its answers
pub kept_behind : {A : Type 0} (p : A) (refusal : Option Fault) (n count : ℕ) (front old new : List A) → length front ≡ n → new ≡ kept_or refusal old (front ++ drop n old) → (refusal ≡ None → count ≡ n) → HoldsFrom p old 0 → HoldsFrom p new count
kept_behind p None n count front old new long is counted holds k h =
    ap (λ l. slice_index_or l k p) is ∙ front_holds p n front old long holds k (omega (arith, counted refl, h))
kept_behind p (Some f) n count front old new long is counted holds k h = ap (λ l. slice_index_or l k p) is ∙ holds k (omega arith)

-- a list of numbers after a call: the answers are its front, and a refusal leaves it
pub listed_or : {A : Type 0} (answers : ℕ → A) (n : ℕ) (refusal : Option Fault) (old new : List A) (r : Result (Unit {0}) Fault) → WholeCall (λ s i a. slice_set s i a) refusal answers n old new r → (r ≡ Ok tt → new ≡ listed answers n old) → new ≡ kept_or refusal old (listed answers n old)
listed_or answers n None old new r c filled = filled c.outcome
listed_or answers n (Some f) old new r c filled = c.slots

pub front_is : {A : Type 0} (n : ℕ) (front behind : List A) → length front ≡ n → take n (front ++ behind) ≡ front
front_is n front behind long = ap (λ k. take k (front ++ behind)) (sym long) ∙ take-append_seam front behind

-- the two ways that a call on a whole partition ends, over the lists as the call sees them and as they are handed in
module _ {V A : Type 0} (same : V → V → Bool) (text : A → List ℕ) (wants_frames wants_groups : Bool) (m : Meaning V A) (x h : Input V) (slots size : ℕ) (r : Result (Unit {0}) Fault) (is : x ≡ h) (long : slots ≡ size) (outcome : r ≡ passes (whole_refusal same wants_frames wants_groups x slots)) where
  known : whole_refusal same wants_frames wants_groups x slots ≡ whole_refusal same wants_frames wants_groups h size
  known = ap (λ y. whole_refusal same wants_frames wants_groups y slots) is ∙ ap (whole_refusal same wants_frames wants_groups h) long

  pub whole_refused : (f : Fault) → r ≡ Err f → refusal_text f ≡ whole_text same text wants_frames wants_groups m h size
  whole_refused f e = refused text tt (whole_refusal same wants_frames wants_groups h size) r f (row_answers m wants_frames h) (outcome ∙ ap passes known) e

  pub whole_answered : (found : List A) → r ≡ Ok tt → found ≡ row_answers m wants_frames x → answers_text text found ≡ whole_text same text wants_frames wants_groups m h size
  whole_answered found e answers = answered text (whole_refusal same wants_frames wants_groups h size) found (row_answers m wants_frames h) (accepted tt tt (whole_refusal same wants_frames wants_groups h size) r (outcome ∙ ap passes known) e) (answers ∙ ap (row_answers m wants_frames) is)
