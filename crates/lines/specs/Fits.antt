-- The values of a type: their numbers are in its range.
use Rattle.std.specs.Prelude.{ℕ, ◌<◌, ◌^◌, ⊤, List, [], ◌∷◌, Option, Some, None, FitsSigned}
use Rattle.std.specs.Int.{w64}
use Rattle.column.specs.declared.kind.Instant.{Instant}
use Rattle.column.specs.declared.kind.Pseudonym.{Pseudonym}
use Rattle.column.specs.declared.kind.CollegeCode.{CollegeCode}
use Rattle.column.specs.declared.kind.LoginOutcome.{LoginOutcome}
use Rattle.column.specs.declared.kind.LoginOutcome.TheVariants.{Granted, Refused, TimedOut}
use Rattle.column.specs.declared.kind.Pair.{Pair}

abbrev pub InstantFits : Instant → Type 0
InstantFits x = FitsSigned w64 x.0

abbrev pub PseudonymFits : Pseudonym → Type 0
PseudonymFits x = (x.high < 2 ^ 64) × (x.low < 2 ^ 64)

abbrev pub CodeFits : CollegeCode → Type 0
CodeFits x = x.0 < 2 ^ 64

abbrev pub OutcomeFits : LoginOutcome → Type 0
OutcomeFits Granted = ⊤
OutcomeFits (Refused reason) = reason < 2 ^ 16
OutcomeFits TimedOut = ⊤

abbrev pub PairFits : {A B : Type 0} → (A → Type 0) → (B → Type 0) → Pair A B → Type 0
PairFits FirstFits SecondFits x = FirstFits x.first × SecondFits x.second

-- NULL, or a value that fits
abbrev pub CellFits : {V : Type 0} → (V → Type 0) → Option V → Type 0
CellFits ValueFits None = ⊤
CellFits ValueFits (Some v) = ValueFits v

abbrev pub SpanFits : ℕ × ℕ → Type 0
SpanFits x = (x.0 < 2 ^ 64) × (x.1 < 2 ^ 64)

-- each fits
abbrev pub ListFits : {V : Type 0} → (V → Type 0) → List V → Type 0
ListFits ValueFits [] = ⊤
ListFits ValueFits (x ∷ xs) = ValueFits x × ListFits ValueFits xs
