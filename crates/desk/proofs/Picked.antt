-- FIRST_VALUE, LAST_VALUE and NTH_VALUE, by what is asked.
use Rattle.std.proofs.Common.{◌≡◌, ◌≢◌, ℕ, true, List, Option, Result, Ok, IfOk, subst, sym, refl}
use Rattle.std.proofs.lemmas.Result.{IfOk-weaker}
use Rattle.nth_value.specs.declared.NthValue.{NthValue}
use Rattle.nth_value.specs.declared.kind.NthValueKind.TheVariants.{First, Last}
use Rattle.nth_value.specs.Nth.{nth_meaning, new_of, making}
use Rattle.options.specs.declared.asked.Asked.{Asked}
use Rattle.options.specs.declared.frame.RowsFrame.{RowsFrame}
use Rattle.options.specs.declared.function.Function.{Function}
use Rattle.options.specs.declared.function.Function.TheVariants as functions
use Rattle.options.specs.Functions.{is_valued}
use Rattle.desk.specs.declared.refusal.Refusal.{Refusal}
use Rattle.desk.specs.declared.answer.Answered.{Answered}
use Rattle.desk.specs.Functions.{AnswersRows, AnswersValues, Laid, Picks, writes_cell}

module _ {V : Type 0} (says : List ℕ → V → Type 0) (value_text : V → List ℕ) (asked : Asked) (frame : Option RowsFrame) (cells : List (Option V)) (laid : Laid) (r : Result Answered Refusal) (by_frame : frame ≡ asked.frame) where
  picks : (e d : NthValue V) → e ≡ d → IfOk r (AnswersRows (writes_cell value_text) nth_meaning e true frame cells laid asked.by_rows) → IfOk r (Picks value_text d asked cells laid)
  picks e d q h = subst (λ x. IfOk r (Picks value_text x asked cells laid)) q (subst (λ f. IfOk r (AnswersRows (writes_cell value_text) nth_meaning e true f cells laid asked.by_rows)) by_frame h)

  pub first_asked : (e : NthValue V) → e ≡ new_of First asked.ignore_nulls → asked.function ≡ functions.FirstValue → IfOk r (AnswersRows (writes_cell value_text) nth_meaning e true frame cells laid asked.by_rows) → IfOk r (AnswersValues says value_text asked.function asked cells laid)
  first_asked e q f h = subst (λ x. IfOk r (AnswersValues says value_text x asked cells laid)) (sym f) (picks e (new_of First asked.ignore_nulls) q h)

  pub last_asked : (e : NthValue V) → e ≡ new_of Last asked.ignore_nulls → asked.function ≡ functions.LastValue → IfOk r (AnswersRows (writes_cell value_text) nth_meaning e true frame cells laid asked.by_rows) → IfOk r (AnswersValues says value_text asked.function asked cells laid)
  last_asked e q f h = subst (λ x. IfOk r (AnswersValues says value_text x asked cells laid)) (sym f) (picks e (new_of Last asked.ignore_nulls) q h)

  pub nth_asked : (e : NthValue V) → making asked.n asked.ignore_nulls ≡ Ok e → asked.function ≡ functions.NthValue → IfOk r (AnswersRows (writes_cell value_text) nth_meaning e true frame cells laid asked.by_rows) → IfOk r (AnswersValues says value_text asked.function asked cells laid)
  nth_asked e q f h = subst (λ x. IfOk r (AnswersValues says value_text x asked cells laid)) (sym f) (IfOk-weaker r _ _ (λ a p. (e, q, p)) (picks e e refl h))

-- the function of values that is none of the others
pub nth_left : (f : Function) → is_valued f ≡ true → f ≢ functions.Lag → f ≢ functions.Lead → f ≢ functions.FirstValue → f ≢ functions.LastValue → f ≡ functions.NthValue
nth_left functions.Lag v a b c d = absurd (a refl)
nth_left functions.Lead v a b c d = absurd (b refl)
nth_left functions.FirstValue v a b c d = absurd (c refl)
nth_left functions.LastValue v a b c d = absurd (d refl)
nth_left functions.NthValue v a b c d = refl
nth_left functions.Rank v a b c d = absurd (cc)
nth_left functions.DenseRank v a b c d = absurd (cc)
nth_left functions.PercentRank v a b c d = absurd (cc)
nth_left functions.CumeDist v a b c d = absurd (cc)
nth_left functions.RowNumber v a b c d = absurd (cc)
