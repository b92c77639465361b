-- What the text of a run tells.
use Rattle.std.specs.Prelude.{◌≡◌, ℕ, ◌+◌, Bool, List, [], ◌∷◌, ◌++◌, codes, length, string_bytes, take, Option, Result, IfOk, MatchResult, String}
use Rattle.std.specs.Str.{IsCharBoundary}
use Rattle.column.specs.declared.fault.Fault.{Fault}
use Rattle.evaluator.specs.Meaning.{Meaning}
use Rattle.replay.specs.declared.calls.Call.{Call}
use Rattle.replay.specs.declared.calls.Entry.{Entry}
use Rattle.replay.specs.History.{Outcome, Replayed, history}
use Rattle.drive.specs.declared.ops.Step.{Step}
use Rattle.drive.specs.declared.ops.Op.{Op}
use Rattle.drive.specs.declared.ops.Op.TheVariants as op
use Rattle.drive.specs.Calls.{AllStand}
use Rattle.lines.specs.Cursors.{ahead}
use Rattle.lines.specs.declared.cursor.Cursor.{Cursor}
use Rattle.lines.specs.declared.stop.Stop.{Stop}
use Rattle.drive.specs.Outcomes.{ending, ending_text, line_text, outcome_text, refusal_text}
use Rattle.drive.specs.Reads.{ReadsSetting, ReadsSteps}

-- what finishing a new run ends in behind these calls
abbrev pub EndsIn : {V A S : Type 0} → (S → Meaning V A) → S → Bool → Bool → List (Call V) → Option (Result ℕ Fault) → Type 0
EndsIn {A} meaning e wants from_zero calls n = (entries : List (Entry A)) × (length entries ≡ length calls) × Replayed meaning e wants from_zero (history calls entries) × (n ≡ ending (history calls entries))

-- the text of an operation's outcome behind these calls: of its call, which ended in o, or of finishing
abbrev pub TellsOp : {V A S : Type 0} → (A → List ℕ) → (S → Meaning V A) → S → Bool → Bool → List (Call V) → Op V → Outcome A → List ℕ → Type 0
TellsOp answer_text meaning e wants from_zero before (op.Request q) o text = text ≡ outcome_text answer_text o
TellsOp answer_text meaning e wants from_zero before op.Settle o text = text ≡ outcome_text answer_text o
TellsOp answer_text meaning e wants from_zero before op.KeepMark o text = text ≡ outcome_text answer_text o
TellsOp answer_text meaning e wants from_zero before (op.Close total) o text = text ≡ outcome_text answer_text o
TellsOp answer_text meaning e wants from_zero before op.Finish o text = (n : Option (Result ℕ Fault)) × EndsIn meaning e wants from_zero before n × (text ≡ ending_text n)

-- the same of the operation at place i
abbrev pub TellsAt : {V A S : Type 0} → (A → List ℕ) → (S → Meaning V A) → S → Bool → Bool → List (Call V) → ℕ → Op V → Outcome A → List ℕ → Type 0
TellsAt answer_text meaning e wants from_zero calls i = TellsOp answer_text meaning e wants from_zero (take i calls)

-- from place i on, each operation with the outcome that is told of it and of what was noted of its call
abbrev pub TellsSteps : {V A : Type 0} → (ℕ → Op V → Outcome A → List ℕ → Type 0) → ℕ → List (Step V) → List (Entry A) → List ℕ → Type 0
TellsSteps Tells i [] entries text = text ≡ []
TellsSteps Tells i (s ∷ steps) [] text = ⊥
TellsSteps Tells i (s ∷ steps) (entry ∷ entries) text = (outcome : List ℕ) × (rest : List ℕ) × (text ≡ codes " " ++ (s.text.now ++ (codes ">" ++ (outcome ++ rest)))) × Tells i s.op entry.outcome outcome × TellsSteps Tells (i + 1) steps entries rest

-- The text of a run of the evaluator e: the operations in order, none left out, and the outcome of each, where the law over lists of calls holds of the calls that they make.
pub record RunTold {V A S : Type 0} (answer_text : A → List ℕ) (meaning : S → Meaning V A) (e : S) (wants from_zero : Bool) (steps : List (Step V)) (text : List ℕ) : Type 0 where
  pub calls : List (Call V)
  pub entries : List (Entry A)
  pub stand : AllStand steps calls (length steps)
  pub replayed : Replayed meaning e wants from_zero (history calls entries)
  pub told : TellsSteps (TellsAt answer_text meaning e wants from_zero calls) 0 steps entries text

-- a run's line, its text up to the setting being `before`: that, the setting, and what is told of the operations that are read behind it
abbrev pub RunLine : {V : Type 0} → (List ℕ → V → Type 0) → (Bool → List (Step V) → List ℕ → Type 0) → List ℕ → List ℕ → List ℕ → Type 0
RunLine {V} Reads Told before ahead text = (from_zero : Bool) × (setting : List ℕ) × (ops : List ℕ) × (steps : List (Step V)) × (outcomes : List ℕ) × (ahead ≡ setting ++ ops) × ReadsSetting setting from_zero × ReadsSteps Reads ops steps × Told from_zero steps outcomes × (text ≡ before ++ (setting ++ outcomes))

-- of a run's line, from the place of the cursor on, with an evaluator that was made or refused: what its text is, or the line and the refusal
abbrev pub TellsRun : {E V A Z : Type 0} → (List ℕ → V → Type 0) → (A → List ℕ) → (E → Meaning V A) → Bool → Result E Fault → List ℕ → Cursor → Result (String Z) Stop → Type 0
TellsRun Reads answer_text meaning wants made line at r = IfOk r (λ s. MatchResult made (λ e. IsCharBoundary at.text.now 0 → RunLine Reads (RunTold answer_text meaning e wants) (take at.at at.text.now) (ahead at) (string_bytes s)) (λ f. string_bytes s ≡ line_text line (refusal_text f)))
