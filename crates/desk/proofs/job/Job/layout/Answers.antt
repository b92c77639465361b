use Rattle.std.proofs.Common.{rules}
use Rattle.desk.specs.Columns.{sheet_of}
use Rattle.desk.specs.Rows.{InTurn}
use Rattle.desk.proofs.Turning.{all_rows}
use Rattle.desk.proofs.job.Job.layout.Goals as goal

pub returns-clause-rows : goal.returns-clause-rows
returns-clause-rows c =
    let (text, read) = c.requires in
    let s = sheet_of c.args.self.now in
    let t : InTurn s c.args.self.now.asked.now c.in_ok-partitions.partitions.items c.in_ok-orders.orders.items c.in_ok-turns.turns.items = search rules in
    all_rows text s read c.args.self.now.asked.now c.in_ok-partitions.partitions.items c.in_ok-orders.orders.items c.in_ok-turns.turns.items t
