use Rattle.std.proofs.Common.{List, ◌++◌, drop, vec_items}
use Rattle.replayed.specs.Replays.{ReadsSteps}
use Rattle.replayed.proofs.script.steps_of.Given as goal

-- the operations read, with any that the lines left are read as, are what all the lines are
abbrev pub invariant-loop-i : goal.invariant-loop-i
invariant-loop-i l = (more : List _) → ReadsSteps l.rows (drop l.i l.lines) more → ReadsSteps l.rows l.lines (vec_items l.steps ++ more)
