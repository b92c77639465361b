-- When two values of a kind are the same: part by part.
use Rattle.std.specs.Prelude.{Bool, true, false, ◌&&◌, ℤ, pos, negsuc, ◌==◌}
use Rattle.column.specs.declared.kind.Instant.{Instant}
use Rattle.column.specs.declared.kind.Pseudonym.{Pseudonym}
use Rattle.column.specs.declared.kind.CollegeCode.{CollegeCode}
use Rattle.column.specs.declared.kind.LoginOutcome.{LoginOutcome}
use Rattle.column.specs.declared.kind.LoginOutcome.TheVariants.{Granted, Refused, TimedOut}
use Rattle.column.specs.declared.kind.Pair.{Pair}

-- signed numbers, equal
abbrev pub same_number : ℤ → ℤ → Bool
same_number (pos a) (pos b) = a == b
same_number (pos a) (negsuc b) = false
same_number (negsuc a) (pos b) = false
same_number (negsuc a) (negsuc b) = a == b

-- instants by their numbers
abbrev pub same_instant : Instant → Instant → Bool
same_instant x y = same_number x.0 y.0

-- pseudonyms by both numbers
abbrev pub same_pseudonym : Pseudonym → Pseudonym → Bool
same_pseudonym x y = x.high == y.high && x.low == y.low

-- codes by their numbers
abbrev pub same_code : CollegeCode → CollegeCode → Bool
same_code x y = x.0 == y.0

-- the same end, and of refusals the same reason
abbrev pub same_outcome : LoginOutcome → LoginOutcome → Bool
same_outcome Granted Granted = true
same_outcome Granted (Refused b) = false
same_outcome Granted TimedOut = false
same_outcome (Refused a) Granted = false
same_outcome (Refused a) (Refused b) = a == b
same_outcome (Refused a) TimedOut = false
same_outcome TimedOut Granted = false
same_outcome TimedOut (Refused b) = false
same_outcome TimedOut TimedOut = true

-- pairs by both parts
abbrev pub same_pair : {A B : Type 0} → (A → A → Bool) → (B → B → Bool) → Pair A B → Pair A B → Bool
same_pair same_first same_second x y = same_first x.first y.first && same_second x.second y.second
