use Rattle.std.proofs.Common.{take, vec_items}
use Rattle.turns.specs.Numbers.{Alike}
use Rattle.desk.specs.Columns.{RefinedBy, sheet_of}
use Rattle.desk.specs.Rows.{unnumbered}
use Rattle.desk.proofs.job.Job.partitions.Given as goal

abbrev pub invariant-loop-name : goal.invariant-loop-name
invariant-loop-name l = RefinedBy Alike (sheet_of l.self) (unnumbered (sheet_of l.self)) (take l.name-index (vec_items l.self.asked.now.partition_by)) (vec_items l.partitions)
