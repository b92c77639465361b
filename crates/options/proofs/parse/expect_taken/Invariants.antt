use Rattle.options.specs.Asking.{TakenBelow}
use Rattle.options.proofs.parse.expect_taken.Given as goal

-- the function takes each option so far
abbrev pub invariant-loop-one : goal.invariant-loop-one
invariant-loop-one l = TakenBelow l.function l.drawn l.given l.one-index
