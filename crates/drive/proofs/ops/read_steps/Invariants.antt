use Rattle.std.proofs.Common.{◌-◌, List, ◌++◌, length, vec_items}
use Rattle.lines.specs.Cursors.{ahead}
use Rattle.drive.specs.Reads.{ReadsSteps}
use Rattle.drive.proofs.ops.read_steps.Given as goal

-- the operations read, with any that what is ahead is read as, are what the line has
abbrev pub invariant-loop-heap : goal.invariant-loop-heap
invariant-loop-heap g l = (more : List _) → ReadsSteps g.K.Text.reads (ahead l.cursor) more → ReadsSteps g.K.Text.reads (ahead l.initial.cursor) (vec_items l.steps ++ more)

abbrev pub decreases-loop-heap : goal.decreases-loop-heap
decreases-loop-heap g l = length l.cursor.text.now - l.cursor.at
