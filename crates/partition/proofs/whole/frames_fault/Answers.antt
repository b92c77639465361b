use Rattle.std.proofs.Common.{rules}
use Rattle.partition.specs.Table.{unfit}
use Rattle.partition.proofs.Faults.{fault_found}
use Rattle.partition.proofs.whole.frames_fault.Goals as goal

pub returns : goal.returns
returns c = let found = fault_found (unfit c.args.n) (0, 0) c.args.frames.now c.args.n c.min-rows.result c.min-rows.ensures in search rules
