-- Login outcomes as numbers.
use Rattle.std.specs.Prelude.{Bool, cond, not, ◌&&◌, ◌||◌, ◌==◌, nat_lt}
use Rattle.column.specs.declared.kind.LoginOutcome.{LoginOutcome}
use Rattle.column.specs.declared.kind.LoginOutcome.TheVariants.{Granted, Refused, TimedOut}
use Rattle.wire.specs.declared.kinds.OutcomeNumbers.{OutcomeNumbers}

-- the numbers of an outcome
abbrev pub numbers_of : LoginOutcome → OutcomeNumbers
numbers_of Granted = record { tag = 0; reason = 0 }
numbers_of (Refused r) = record { tag = 1; reason = r }
numbers_of TimedOut = record { tag = 2; reason = 0 }

-- numbers that are those of no outcome
abbrev pub flawed : OutcomeNumbers → Bool
flawed x = nat_lt 2 x.tag || (not (x.tag == 1) && not (x.reason == 0))

-- the outcome of others
abbrev pub outcome_of : OutcomeNumbers → LoginOutcome
outcome_of x = cond (x.tag == 0) Granted (cond (x.tag == 1) (Refused x.reason) TimedOut)
