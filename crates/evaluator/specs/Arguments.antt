-- What an argument of a window function reads as.
use Rattle.std.specs.Prelude.{ℕ, cond, ℤ, pos, neg_ℤ, Some, None, Ok, Err, Option, Result, nat_lt}
use Rattle.std.specs.Int.{int_wrap, w64}
use Rattle.column.specs.declared.fault.Fault.{Fault}
use Rattle.column.specs.declared.fault.Fault.TheVariants as faults
use Rattle.evaluator.specs.declared.utils.Argument.{Argument}
use Rattle.evaluator.specs.declared.utils.Argument.TheVariants.{Missing, Null, Signed, Unsigned, NotInteger}

-- 2^63 - 1
abbrev pub largest : ℕ
largest = 9223372036854775807

-- the signed integer, none where it is missing; NULL reads as 0; the place of a refusal is argument 1
abbrev pub signed_integer : Argument → Result (Option ℤ) Fault
signed_integer Missing = Ok None
signed_integer Null = Ok (Some (pos 0))
signed_integer (Signed v) = Ok (Some v)
signed_integer (Unsigned v) = cond (nat_lt largest v) (Err (faults.TooLarge 1)) (Ok (Some (pos v)))
signed_integer NotInteger = Err (faults.NotInteger 1)

-- a number the other way, wrapping in 64 bits
abbrev pub opposite : ℤ → ℤ
opposite z = int_wrap w64 (neg_ℤ z)
