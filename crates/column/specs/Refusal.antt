-- What a refusal does to a call, and the checks of every column.
use Rattle.std.specs.Prelude.{ℕ, min, cond, not, Some, None, Ok, Err, Option, Result, ◌==◌, nat_lt}
use Rattle.column.specs.declared.fault.Fault.{Fault}
use Rattle.column.specs.declared.fault.Fault.TheVariants.{Lengths, RowLimit}

-- what a call gives, of what refuses it
abbrev pub yields : {X : Type 0} → X → Option Fault → Result X Fault
yields x None = Ok x
yields x (Some f) = Err f

-- what a check gives
abbrev pub passes : Option Fault → Result (Unit {0}) Fault
passes refusal = yields tt refusal

-- what a buffer holds after a call: a refusal leaves it as it was
abbrev pub kept_or : {X : Type 0} → Option Fault → X → X → X
kept_or None old new = new
kept_or (Some f) old new = old

-- the first of two refusals
abbrev pub or_else : Option Fault → Option Fault → Option Fault
or_else (Some f) g = Some f
or_else None g = g

-- the most rows that a partition has
abbrev pub row_limit : ℕ
row_limit = 16777216

-- 5 and 6, over the lengths of values and marks
abbrev pub column_refusal : ℕ → ℕ → Option Fault
column_refusal values marks =
    cond (not (values == marks)) (Some (Lengths (min values marks)))
    (cond (nat_lt row_limit values) (Some (RowLimit row_limit))
    None)
