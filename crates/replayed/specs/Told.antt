-- How calls ended, in words.
use Rattle.std.specs.Prelude.{ℕ, List, ◌++◌, codes, decimal, Option, Some, None, Result, Ok, Err}
use Rattle.column.specs.Fault.{number, place}
use Rattle.column.specs.declared.fault.Fault.{Fault}
use Rattle.replay.specs.declared.calls.Reply.TheVariants.{Answer, Done, Mark, NotTaken}
use Rattle.replay.specs.History.{Outcome}

-- a refusal by its number and place
abbrev pub refusal_text : Fault → List ℕ
refusal_text f = codes "refused by " ++ (decimal (number f) ++ (codes " at " ++ decimal (place f)))

-- what a call gives, or its refusal
abbrev pub outcome_text : {A : Type 0} → (A → List ℕ) → Outcome A → List ℕ
outcome_text answer_text (Ok (Answer answer)) = codes "answer " ++ answer_text answer
outcome_text answer_text (Ok Done) = codes "done"
outcome_text answer_text (Ok (Mark n)) = codes "keep from row " ++ decimal n
outcome_text answer_text (Ok NotTaken) = codes "closed already"
outcome_text answer_text (Err f) = refusal_text f

-- what finishing ends in
abbrev pub ending_text : Option (Result ℕ Fault) → List ℕ
ending_text (Some (Ok rows)) = decimal rows ++ codes " rows answered"
ending_text (Some (Err f)) = refusal_text f
ending_text None = codes "not closed yet"
