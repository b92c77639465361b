-- What is written of a list of calls.
use Rattle.std.specs.Prelude.{◌≡◌, ◌==◌, ℕ, ◌<◌, ◌&&◌, Bool, true, false, cond, List, [], ◌∷◌, ◌++◌, codes, decimal, get_or, length, map, nat_le, slice_index_or, slice_range, MatchResult, Option, Some, None, Result, Ok, Err}
use Rattle.std.specs.List.{enumerate_from, filter}
use Rattle.std.specs.Str.Lines.{lines}
use Rattle.column.specs.declared.column.Window.{Window}
use Rattle.column.specs.Kinds.{same_code, same_instant, same_outcome, same_pair, same_pseudonym}
use Rattle.column.specs.declared.fault.Fault.{Fault}
use Rattle.column.specs.declared.fault.Fault.TheVariants.{Unanswered}
use Rattle.evaluator.specs.Meaning.{Meaning}
use Rattle.functions.specs.declared.function.Function.{Function}
use Rattle.functions.specs.declared.function.Function.TheVariants as functions
use Rattle.functions.specs.Making.{frames_making}
use Rattle.lead_lag.specs.Shift.{making, shift_meaning}
use Rattle.lines.specs.declared.kinds.KindName.{KindName}
use Rattle.lines.specs.declared.kinds.KindName.TheVariants as kinds
use Rattle.lines.specs.Reads.{ReadsCode, ReadsColumn, ReadsInstant, ReadsOutcome, ReadsPair, ReadsPseudonym}
use Rattle.lines.specs.Texts.{cell_text, code_text, instant_text, outcome_text as value_outcome_text, pair_text, pseudonym_text}
use Rattle.nth_value.specs.Nth.{nth_meaning}
use Rattle.rank.specs.Numbers.{new_row_number, row_number_meaning}
use Rattle.rank.specs.Ranks.{new_rank, rank_meaning}
use Rattle.replay.specs.declared.calls.Call.{Call}
use Rattle.replay.specs.declared.calls.Call.TheVariants as call
use Rattle.replay.specs.declared.calls.Entry.{Entry}
use Rattle.replay.specs.History.{Event, Outcome, Replayed, accepted, history, total_of}
use Rattle.replayed.specs.declared.calls.Op.{Op}
use Rattle.replayed.specs.declared.calls.Op.TheVariants as op
use Rattle.replayed.specs.declared.script.Line.{Line}
use Rattle.replayed.specs.declared.script.Step.{Step}
use Rattle.replayed.specs.Calls.{ReadsOp, is_call}
use Rattle.replayed.specs.Told.{ending_text, outcome_text, refusal_text}

-- the part of a list from a place up to another, and nothing where it ends before
abbrev pub part : {V : Type 0} → List V → ℕ → ℕ → List V
part list from to = cond (nat_le from to && nat_le to (length list)) (slice_range list from to) []

-- a request shows the rows of the column that it names
abbrev pub Asks : {V : Type 0} → List V → List Bool → ℕ → ℕ → Option (ℕ × ℕ) → Window V → Option (ℕ × ℕ) → Type 0
Asks values marks from to frame w f = (w.begin ≡ from) × (w.rows.values.now ≡ part values from to) × (w.rows.marks.now ≡ part marks from to) × (f ≡ frame)

-- the call that an operation makes; in the place of a finish the mark is read
abbrev pub Stands : {V : Type 0} → List V → List Bool → Op → Call V → Type 0
Stands values marks (op.Request from to frame) c = elim c [ call.Request w f ↦ Asks values marks from to frame w f | call.Settle ↦ ⊥ | call.KeepMark ↦ ⊥ | call.Close n ↦ ⊥ ]
Stands values marks op.Settle c = c ≡ call.Settle
Stands values marks op.Mark c = c ≡ call.KeepMark
Stands values marks (op.Close n) c = c ≡ call.Close n
Stands values marks op.Finish c = c ≡ call.KeepMark

-- each of the first n operations makes the call at its place
abbrev pub AllStand : {V : Type 0} → List V → List Bool → List Step → List (Call V) → ℕ → Type 0
AllStand {V} values marks steps calls n = (k : ℕ) (s : Step) (c : Call V) → k < n → Stands values marks (get_or steps k s).op (slice_index_or calls k c)

-- what finishing ends in where this row is the next, and this the total of the accepted close
abbrev pub ending_at : ℕ → Option ℕ → Option (Result ℕ Fault)
ending_at next None = None
ending_at next (Some total) = Some (cond (next == total) (Ok total) (Err (Unanswered next)))

-- the same after a run's events
abbrev pub ending : {V A : Type 0} → List (Event V A) → Option (Result ℕ Fault)
ending h = ending_at (accepted h) (total_of None h)

-- a call's line with what it ended in, and where it is refused a line that says what the refusal means
abbrev pub TellsCall : List ℕ → List ℕ → Option Fault → List ℕ → Type 0
TellsCall line told None text = text ≡ line ++ (codes ": " ++ (told ++ codes "\n"))
TellsCall line told (Some f) text = (meaning : List ℕ) × (text ≡ line ++ (codes ": " ++ (told ++ (codes "\n  " ++ (meaning ++ codes "\n")))))

-- the refusal of a call
abbrev pub refusal_of : {A : Type 0} → Outcome A → Option Fault
refusal_of (Ok reply) = None
refusal_of (Err f) = Some f

-- the refusal of finishing
abbrev pub unfinished : Option (Result ℕ Fault) → Option Fault
unfinished (Some (Ok rows)) = None
unfinished (Some (Err f)) = Some f
unfinished None = None

-- of an operation: of its call, or of finishing
abbrev pub TellsOp : {A : Type 0} → (A → List ℕ) → Option (Result ℕ Fault) → List ℕ → Op → Outcome A → List ℕ → Type 0
TellsOp answer_text end line (op.Request from to frame) o = TellsCall line (outcome_text answer_text o) (refusal_of o)
TellsOp answer_text end line op.Settle o = TellsCall line (outcome_text answer_text o) (refusal_of o)
TellsOp answer_text end line op.Mark o = TellsCall line (outcome_text answer_text o) (refusal_of o)
TellsOp answer_text end line (op.Close total) o = TellsCall line (outcome_text answer_text o) (refusal_of o)
TellsOp answer_text end line op.Finish o = TellsCall line (ending_text end) (unfinished end)

-- each operation in order, none left out, with what was noted of its call
abbrev pub TellsSteps : {A : Type 0} → (A → List ℕ) → Option (Result ℕ Fault) → List Step → List (Entry A) → List ℕ → Type 0
TellsSteps answer_text end [] entries text = text ≡ []
TellsSteps answer_text end (s ∷ steps) [] text = ⊥
TellsSteps answer_text end (s ∷ steps) (entry ∷ entries) text = (here : List ℕ) × (rest : List ℕ) × (text ≡ here ++ rest) × TellsOp answer_text end s.line.text.now s.op entry.outcome here × TellsSteps answer_text end steps entries rest

-- The text of a list of calls on a run of the evaluator e: each operation with the outcome of its call, where the law over lists of calls holds of the calls that they make.
pub record ReplayTold {V A S : Type 0} (answer_text : A → List ℕ) (meaning : S → Meaning V A) (e : S) (wants from_zero : Bool) (values : List V) (marks : List Bool) (steps : List Step) (text : List ℕ) : Type 0 where
  pub calls : List (Call V)
  pub entries : List (Entry A)
  pub stand : AllStand values marks steps calls (length steps)
  pub replayed : Replayed meaning e wants from_zero (history calls entries)
  pub told : TellsSteps answer_text (ending (history calls entries)) steps entries text

-- a text with more behind it
abbrev pub Adds : List ℕ → List ℕ → (List ℕ → Type 0) → Type 0
Adds old new Tells = (here : List ℕ) × (new ≡ old ++ here) × Tells here

-- an operation is what its line is read as; a finish has no line behind it
abbrev pub ReadsStep : ℕ → List Line → Line → Step → Type 0
ReadsStep rows behind l s = (s.line ≡ l) × ReadsOp rows l.text.now s.op × (s.op ≡ op.Finish → behind ≡ [])

-- the operations that lines are read as
abbrev pub ReadsSteps : ℕ → List Line → List Step → Type 0
ReadsSteps rows [] steps = steps ≡ []
ReadsSteps rows (l ∷ lines) [] = ⊥
ReadsSteps rows (l ∷ lines) (s ∷ steps) = ReadsStep rows lines l s × ReadsSteps rows lines steps

-- what comes of an evaluator that is made, or of its refusal at the head
abbrev pub TellsMade : {E V A : Type 0} → (A → List ℕ) → (E → Meaning V A) → Bool → Bool → List V → List Bool → List Step → List ℕ → Result E Fault → List ℕ → Type 0
TellsMade answer_text meaning wants from_zero values marks steps head made text = MatchResult made (λ e. ReplayTold answer_text meaning e wants from_zero values marks steps text) (λ f. TellsCall head (refusal_text f) (Some f) text)

-- what comes of a function; of one that does not answer by rows nothing does
abbrev pub TellsFunction : {V : Type 0} → (V → V → Bool) → (V → List ℕ) → Bool → List V → List Bool → List Step → List ℕ → Function V → List ℕ → Type 0
TellsFunction same value_text from_zero values marks steps head (functions.Shift s) = TellsMade (cell_text value_text) shift_meaning false from_zero values marks steps head (making s.kind s.offset s.reversed s.ignore_nulls s.default)
TellsFunction same value_text from_zero values marks steps head (functions.Frames f) = TellsMade (cell_text value_text) nth_meaning true from_zero values marks steps head (frames_making f)
TellsFunction same value_text from_zero values marks steps head (functions.Rank t) = ReplayTold decimal (rank_meaning same) (new_rank t) false from_zero values marks steps
TellsFunction same value_text from_zero values marks steps head functions.RowNumber = ReplayTold decimal row_number_meaning new_row_number false from_zero values marks steps
TellsFunction same value_text from_zero values marks steps head functions.PercentRank = λ text. ⊥
TellsFunction same value_text from_zero values marks steps head functions.CumeDist = λ text. ⊥

-- at a kind of values: the second line is read as the column, and the others as operations, all made on a run of one function
pub record TellsList {V : Type 0} (Reads : List ℕ → V → Type 0) (same : V → V → Bool) (value_text : V → List ℕ) (head : Line) (rest : List Line) (text : List ℕ) : Type 0 where
  pub second : Line
  pub calls : List Line
  pub split : rest ≡ second ∷ calls
  pub function : Function V
  pub from_zero : Bool
  pub values : List V
  pub marks : List Bool
  pub column : ReadsColumn Reads 32 second.text.now values marks
  pub steps : List Step
  pub reads : ReadsSteps (length values) calls steps
  pub told : TellsFunction same value_text from_zero values marks steps head.text.now function text

-- the lines of a text that hold calls, in order
abbrev pub call_lines : List ℕ → List (List ℕ)
call_lines text = map (λ p. p.1) (filter (λ p. is_call p.1) (enumerate_from 0 (lines text)))

-- these are they
abbrev pub AreLines : List ℕ → List Line → Type 0
AreLines text list = map (λ l. l.text.now) list ≡ call_lines text

-- the list at a kind of values
abbrev pub TellsKind : KindName → Line → List Line → List ℕ → Type 0
TellsKind kinds.Instant = TellsList ReadsInstant same_instant instant_text
TellsKind kinds.Pseudonym = TellsList ReadsPseudonym same_pseudonym pseudonym_text
TellsKind kinds.Code = TellsList ReadsCode same_code code_text
TellsKind kinds.Outcome = TellsList ReadsOutcome same_outcome value_outcome_text
TellsKind kinds.InstantCode = TellsList (ReadsPair ReadsInstant ReadsCode) (same_pair same_instant same_code) (pair_text instant_text code_text)
TellsKind kinds.OutcomeLogin = TellsList (ReadsPair ReadsOutcome (ReadsPair ReadsInstant ReadsPseudonym)) (same_pair same_outcome (same_pair same_instant same_pseudonym)) (pair_text value_outcome_text (pair_text instant_text pseudonym_text))

-- What is written of a text that is read: its calls in order, each with its outcome.
pub record Replays (text out : List ℕ) : Type 0 where
  pub head : Line
  pub rest : List Line
  pub are : AreLines text (head ∷ rest)
  pub kind : KindName
  pub told : TellsKind kind head rest out
