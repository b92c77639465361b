-- The texts of outcomes.
use Rattle.std.specs.Prelude.{◌≡◌, ◌==◌, ℕ, ⊤, cond, List, [], ◌∷◌, ◌++◌, codes, decimal, Option, Some, None, Result, Ok, Err, IfErr}
use Rattle.column.specs.Fault.{number, place}
use Rattle.column.specs.declared.fault.Fault.{Fault}
use Rattle.column.specs.declared.fault.Fault.TheVariants.{Unanswered}
use Rattle.replay.specs.declared.calls.Reply.TheVariants.{Answer, Done, Mark, NotTaken}
use Rattle.replay.specs.History.{Outcome, Event, accepted, total_of}
use Rattle.lines.specs.Texts.{list_text}
use Rattle.drive.specs.declared.runs.OpOutcome.{OpOutcome}
use Rattle.drive.specs.declared.runs.OpOutcome.TheVariants.{OfCall, OfFinish}

-- a refusal by its number and place
abbrev pub refused_text : ℕ → ℕ → List ℕ
refused_text n p = codes "no:" ++ (decimal n ++ (codes ":" ++ decimal p))

-- a refusal
abbrev pub refusal_text : Fault → List ℕ
refusal_text f = refused_text (number f) (place f)

-- what a call gives, or its refusal
abbrev pub outcome_text : {A : Type 0} → (A → List ℕ) → Outcome A → List ℕ
outcome_text answer_text (Ok (Answer answer)) = codes "ok:" ++ answer_text answer
outcome_text answer_text (Err f) = refusal_text f
outcome_text answer_text (Ok Done) = codes "ok"
outcome_text answer_text (Ok (Mark n)) = decimal n
outcome_text answer_text (Ok NotTaken) = codes "no:closed"

-- a list of answers, or of peer groups
abbrev pub answers_text : {A : Type 0} → (A → List ℕ) → List A → List ℕ
answers_text answer_text answers = codes "ok:" ++ list_text answer_text answers

-- the refusal, or else the answers
abbrev pub told_text : {A : Type 0} → (A → List ℕ) → Option Fault → List A → List ℕ
told_text answer_text (Some f) answers = refusal_text f
told_text answer_text None answers = answers_text answer_text answers

-- of an attempt to finish: the rows, a refusal, or that the run is not closed
abbrev pub ending_text : Option (Result ℕ Fault) → List ℕ
ending_text (Some (Ok rows)) = codes "ok:" ++ decimal rows
ending_text (Some (Err f)) = refusal_text f
ending_text None = codes "no:open"

-- of an operation: of its call, or of an attempt to finish
abbrev pub op_text : {A : Type 0} → (A → List ℕ) → OpOutcome A → List ℕ
op_text answer_text (OfCall told) = outcome_text answer_text told.0
op_text answer_text (OfFinish ending) = ending_text ending.0

-- an accepted finish
abbrev pub IsAccepted : {A : Type 0} → OpOutcome A → Type 0
IsAccepted x = (ending : _) × (rows : ℕ) × (x ≡ OfFinish ending) × (ending.0 ≡ Some (Ok rows))

-- what finishing ends in where this row is the next, and this the total of the accepted close
abbrev pub ending_at : ℕ → Option ℕ → Option (Result ℕ Fault)
ending_at next None = None
ending_at next (Some total) = Some (cond (next == total) (Ok total) (Err (Unanswered next)))

-- the same after a run's events
abbrev pub ending : {V A : Type 0} → List (Event V A) → Option (Result ℕ Fault)
ending h = ending_at (accepted h) (total_of None h)

-- an empty line, or one that begins with `#`
abbrev pub IsComment : List ℕ → Type 0
IsComment [] = ⊤
IsComment (b ∷ bs) = b ≡ 35

-- a line: its text, and an outcome behind it
abbrev pub line_text : List ℕ → List ℕ → List ℕ
line_text text outcome = text ++ (codes " = " ++ outcome)

-- the outcome of an evaluator that is refused is the refusal
abbrev pub TellsRefusal : {E : Type 0} → Result E Fault → List ℕ → Type 0
TellsRefusal made outcome = IfErr made (λ f. outcome ≡ refusal_text f)
