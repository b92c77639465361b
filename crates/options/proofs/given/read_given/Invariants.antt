use Rattle.std.proofs.Common.{◌-◌, ◌≤◌, length, vec_items}
use Rattle.options.specs.Given.{Once, Run}
use Rattle.options.proofs.given.read_given.Given as goal

-- the words up to k give the options so far, each once
abbrev pub invariant-loop-k : goal.invariant-loop-k
invariant-loop-k l = Run l.words 0 (vec_items l.given) l.k × Once (vec_items l.given) × (l.k ≤ length l.words)

abbrev pub decreases-loop-k : goal.decreases-loop-k
decreases-loop-k l = length l.words - l.k
