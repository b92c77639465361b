use Rattle.std.proofs.Common.{take}
use Rattle.turns.specs.Numbers.{SayCells}
use Rattle.turns.proofs.order.whole_cells.Given as goal

abbrev pub invariant-loop-content : goal.invariant-loop-content
invariant-loop-content l = SayCells (take l.content-index l.contents) l.cells.items
