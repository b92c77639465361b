-- The answers of the rows of a partition. Assumes nothing.
use Rattle.std.specs.Prelude.{◌≡◌, ℕ, Bool, List, [], ◌++◌, map, Some, None, Option}
use Rattle.std.specs.List.{range_with_len}
use Rattle.column.specs.declared.fault.Fault.{Fault}
use Rattle.evaluator.specs.Meaning.{Meaning, partition}
use Rattle.fields.specs.declared.answers.Stop.{Stop}
use Rattle.fields.specs.declared.answers.Stop.TheVariants.{Memory, Refused}
use Rattle.partition.specs.Table.{Input, row_count}

-- the answer that the definition gives of each row, in order
abbrev pub row_answers : {V A : Type 0} → Meaning V A → Bool → Input V → List A
row_answers m wants_frames x = map (m.answer (partition wants_frames x)) (range_with_len 0 (row_count x))

-- no answers: for want of memory, or by this check
abbrev pub Stops : Option Fault → Stop → Type 0
Stops refusal Memory = Unit {0}
Stops refusal (Refused fault) = refusal ≡ Some fault

-- the content of a cell's field: none for NULL
abbrev pub cell_text : {V : Type 0} → (V → List ℕ) → Option V → List ℕ
cell_text value_text None = []
cell_text value_text (Some v) = value_text v

-- a text goes on with what an answer is written as
abbrev pub Wrote : {A : Type 0} → (A → List ℕ → Type 0) → A → List ℕ → List ℕ → Type 0
Wrote writes answer old new = (content : List ℕ) × (new ≡ old ++ content) × writes answer content
