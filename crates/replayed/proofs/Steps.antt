-- The text of a list of calls, told operation by operation.
use Rattle.std.proofs.Common.{◌≡◌, ◌+◌, ◌<◌, List, [], ◌∷◌, ◌++◌, ℕ, Option, Result, drop, get_or, length, ap, refl, sym, subst, ◌∙◌, arith}
use Rattle.std.proofs.lemmas.List.{append_assoc, drop_all, drop_more}
use Rattle.column.specs.declared.fault.Fault.{Fault}
use Rattle.replay.specs.declared.calls.Entry.{Entry}
use Rattle.replayed.specs.declared.calls.Op.{Op}
use Rattle.replayed.specs.declared.calls.Op.TheVariants.{Finish}
use Rattle.replayed.specs.declared.script.Line.{Line}
use Rattle.replayed.specs.Calls.{ReadsOp}
use Rattle.replayed.specs.declared.script.Step.{Step}
use Rattle.replayed.specs.Replays.{Adds, ReadsStep, ReadsSteps, TellsOp, TellsSteps}

module _ {A : Type 0} (answer_text : A → List ℕ) (end : Option (Result ℕ Fault)) where
  -- one more operation is told, where the text of those before it goes on to that of all
  pub tells_one : (s : Step) (left steps all : List Step) (entry : Entry A) (noted entries every : List (Entry A)) (old new : List ℕ) → left ≡ s ∷ steps → noted ≡ entry ∷ entries → Adds old new (TellsOp answer_text end s.line.text.now s.op entry.outcome) → ((rest : List ℕ) → TellsSteps answer_text end left noted rest → TellsSteps answer_text end all every (old ++ rest)) → (rest : List ℕ) → TellsSteps answer_text end steps entries rest → TellsSteps answer_text end all every (new ++ rest)
  tells_one s left steps all entry noted entries every old new is_left is_noted (here, written, tells) goes rest h =
      let more : TellsSteps answer_text end (s ∷ steps) (entry ∷ entries) (here ++ rest) = (here, rest, refl, tells, h) in
      let all_left = subst (λ l. TellsSteps answer_text end l noted (here ++ rest)) (sym is_left) (subst (λ l. TellsSteps answer_text end (s ∷ steps) l (here ++ rest)) (sym is_noted) more) in
      subst (TellsSteps answer_text end all every) (sym (ap (λ t. t ++ rest) written ∙ append_assoc old here rest)) (goes (here ++ rest) all_left)

  -- where none is left, nothing is
  pub tells_none : (left : List Step) (noted : List (Entry A)) → left ≡ [] → TellsSteps answer_text end left noted []
  tells_none left noted e = subst (λ l. TellsSteps answer_text end l noted []) (sym e) refl

-- one more line is read, where the operations before it go on to those of all lines
pub reads_one : (rows : ℕ) (l : Line) (left behind all : List Line) (s : Step) (old new : List Step) → left ≡ l ∷ behind → new ≡ old ++ (s ∷ []) → ReadsStep rows behind l s → ((more : List Step) → ReadsSteps rows left more → ReadsSteps rows all (old ++ more)) → (more : List Step) → ReadsSteps rows behind more → ReadsSteps rows all (new ++ more)
reads_one rows l left behind all s old new is_left pushed reads goes more h =
    let here : ReadsSteps rows (l ∷ behind) (s ∷ more) = (reads, h) in
    subst (ReadsSteps rows all) (sym (ap (λ t. t ++ more) pushed ∙ append_assoc old (s ∷ []) more)) (goes (s ∷ more) (subst (λ t. ReadsSteps rows t (s ∷ more)) (sym is_left) here))

-- where no line is left, no operation is
pub reads_none : (rows : ℕ) (left : List Line) → left ≡ [] → ReadsSteps rows left []
reads_none rows left e = subst (λ t. ReadsSteps rows t []) (sym e) refl

-- the same of the line at place i
pub reads_at : (rows : ℕ) (lines : List Line) (i : ℕ) (d : Line) (o : Op) (old new : List Step) → new ≡ old ++ (record { line = get_or lines i d; op = o } ∷ []) → i < length lines → ReadsOp rows (get_or lines i d).text.now o → (o ≡ Finish → i + 1 ≡ length lines) → ((more : List Step) → ReadsSteps rows (drop i lines) more → ReadsSteps rows lines (old ++ more)) → (more : List Step) → ReadsSteps rows (drop (i + 1) lines) more → ReadsSteps rows lines (new ++ more)
reads_at rows lines i d o old new pushed within reads last goes =
    let s : Step = record { line = get_or lines i d; op = o } in
    let none : o ≡ Finish → drop (i + 1) lines ≡ [] = λ e. drop_all (i + 1) lines (omega (arith, last e)) in
    reads_one rows (get_or lines i d) (drop i lines) (drop (i + 1) lines) lines s old new (drop_more lines i d within) pushed (refl, reads, none) goes
