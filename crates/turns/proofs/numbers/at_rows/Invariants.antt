use Rattle.turns.proofs.Placed.{Placed}
use Rattle.turns.proofs.numbers.at_rows.Given as goal

abbrev pub invariant-loop-i : goal.invariant-loop-i
invariant-loop-i g l = Placed l.keys l.numbers l.i l.placed.items
