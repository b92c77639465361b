use Rattle.std.proofs.Common.{rules, subst, get_or}
use Rattle.table.specs.Contents.{bytes_of}
use Rattle.turns.specs.Numbers.{SaysCell}
use Rattle.turns.proofs.Said.{say_more}
use Rattle.turns.proofs.order.whole_cells.Goals as goal

pub loop-content-preserved : goal.loop-content-preserved
loop-content-preserved c = say_more c.args.contents.now c.loop-content.content-index c.content-item.result c.loop-content.cells.items c.push.new.self.items c.in-Some.cell c.loop-content-test.true c.loop-content.invariant (subst (λ bs. SaysCell bs c.in-Some.cell) {y = bytes_of (get_or c.args.contents.now c.loop-content.content-index c.content-item.result)} (search rules) c.in-Some.ensures) c.in_ok-push.ensures.items
