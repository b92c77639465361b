use Rattle.std.proofs.Common.{ℕ, ◌<◌}
use Rattle.options.specs.Given.{At}
use Rattle.options.proofs.given.place_of.Given as goal

-- the option is at no place so far
abbrev pub invariant-loop-k : goal.invariant-loop-k
invariant-loop-k l = (j : ℕ) → j < l.k → At l.given l.key j → ⊥
