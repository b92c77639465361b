use Rattle.std.proofs.Common.{take, vec_items}
use Rattle.turns.specs.Numbers.{Ordered}
use Rattle.desk.specs.Columns.{RefinedBy, sheet_of}
use Rattle.desk.specs.Rows.{unnumbered}
use Rattle.desk.proofs.job.Job.orders.Given as goal

abbrev pub invariant-loop-name : goal.invariant-loop-name
invariant-loop-name l = RefinedBy Ordered (sheet_of l.self) (unnumbered (sheet_of l.self)) (take l.name-index (vec_items l.self.asked.now.order_by)) (vec_items l.orders)
