use Rattle.std.proofs.Common.{below_more, arith, rules}
use Rattle.options.proofs.given.place_of.Goals as goal

pub loop-k-preserved : goal.loop-k-preserved
loop-k-preserved c = below_more _ _ c.loop-k.invariant (λ here. let all = here.1 in search (rules, all))

pub returns : goal.returns
returns c = λ k here. c.loop-k.invariant k (omega (arith, here.0)) here
