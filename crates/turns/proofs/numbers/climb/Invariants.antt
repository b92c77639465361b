use Rattle.turns.specs.Keys.{key_cmp}
use Rattle.turns.proofs.Climbs.{Climbed}
use Rattle.turns.proofs.numbers.climb.Given as goal

abbrev pub invariant-loop-i : goal.invariant-loop-i
invariant-loop-i g l = Climbed (key_cmp g.K.Ord.cmp) l.keys l.i l.numbers.items l.number
