-- What a call tells C.
use Rattle.std.specs.Prelude.{◌≡◌, ◌⊎◌, ℕ, Some, None, Ok, Err, Option, Result}
use Rattle.column.specs.declared.fault.Fault.{Fault}
use Rattle.column.specs.Fault as faults
use Rattle.wire.specs.declared.stop.Stop.{Stop}
use Rattle.wire.specs.declared.stop.Stop.TheVariants.{Memory, Function, Value, Mark, Call, Refused}
use Rattle.wire.specs.declared.stop.Told.{Told}

-- the number that C knows it by; those of the library's checks are 1 to 20
abbrev pub number : Stop → ℕ
number Memory = 0
number (Function n) = 21
number (Value n) = 22
number (Mark n) = 23
number (Call n) = 24
number (Refused f) = faults.number f

-- where it lies
abbrev pub place : Stop → ℕ
place Memory = 0
place (Function n) = n
place (Value n) = n
place (Mark n) = n
place (Call n) = n
place (Refused f) = faults.place f

-- what is told of a call that counts
abbrev pub told : Result ℕ Stop → Told
told (Ok n) = record { refused = 0; number = 0; place = n }
told (Err s) = record { refused = 1; number = number s; place = place s }

-- what is told of one that counts nothing
abbrev pub told_done : Result (Unit {0}) Stop → Told
told_done (Ok x) = told (Ok 0)
told_done (Err s) = told (Err s)

-- the first of two
abbrev pub first_of : Option Stop → Option Stop → Option Stop
first_of (Some s) t = Some s
first_of None t = t

-- a place at fault as what it stops a call by
abbrev pub stopped : (ℕ → Stop) → Option ℕ → Option Stop
stopped stop None = None
stopped stop (Some n) = Some (stop n)

-- a check of the library that refuses
abbrev pub refused : Option Fault → Option Stop
refused None = None
refused (Some f) = Some (Refused f)

-- what a call gives, of what stops it
abbrev pub gives : {X : Type 0} → X → Option Stop → Result X Stop
gives x None = Ok x
gives x (Some s) = Err s

-- what is made, of what stops it, unless there is no memory
abbrev pub Makes : {X : Type 0} → Result X Stop → Option Stop → (X → Type 0) → Type 0
Makes (Ok x) stop P = (stop ≡ None) × P x
Makes (Err s) stop P = (s ≡ Memory) ⊎ (Some s ≡ stop)
