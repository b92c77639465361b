-- A call that the library refuses. Assumes nothing.
use Rattle.std.specs.Prelude.{◌≡◌, ◌<◌, ◌⊎◌, ℕ, Bool, List, [], length, Some, Option, slice_index_or}
use Rattle.column.specs.declared.fault.Fault.{Fault}
use Rattle.column.specs.Refusal.{column_refusal}
use Rattle.options.specs.declared.frame.RowsFrame.{RowsFrame}
use Rattle.partition.specs.Table.{Input, row_count, whole_refusal}
use Rattle.turns.specs.declared.layout.Turn.{Turn}
use Rattle.desk.specs.Parts.{IsPart}
use Rattle.desk.specs.declared.refusal.Refusal.{Refusal}
use Rattle.desk.specs.declared.refusal.Refusal.TheVariants.{Memory, Unread, Column, NoValue, NoDefault, NoValues, Call, Differs}

-- no answers: for want of memory, or by this check
abbrev pub Refuses : Option Fault → Refusal → Type 0
Refuses refusal Memory = Unit {0}
Refuses refusal (Call fault) = refusal ≡ Some fault
Refuses refusal (Unread unread) = ⊥
Refuses refusal (Column name why) = ⊥
Refuses refusal (NoValue row column kind) = ⊥
Refuses refusal (NoDefault text kind) = ⊥
Refuses refusal NoValues = ⊥
Refuses refusal (Differs row) = ⊥

-- a partition of rows in turn is refused: for its number of rows, or by the first check of what is handed over that fails
abbrev pub PartRefuses : {V : Type 0} → (V → V → Bool) → Bool → Bool → Option RowsFrame → List (Option V) → List Turn → Refusal → Type 0
PartRefuses same frames groups frame cells turns r = Refuses (column_refusal (length turns) (length turns)) r ⊎ ((x : Input _) × IsPart frames groups frame cells turns x × Refuses (whole_refusal same frames groups x (row_count x)) r)

-- no answers: for want of memory, or since a partition is refused
abbrev pub OneRefuses : {V : Type 0} → (V → V → Bool) → Bool → Bool → Option RowsFrame → List (Option V) → List (List Turn) → Refusal → Type 0
OneRefuses same frames groups frame cells parts r = (r ≡ Memory) ⊎ ((k : ℕ) × (k < length parts) × PartRefuses same frames groups frame cells (slice_index_or parts k []) r)
