use Rattle.std.proofs.Common.{◌≡◌, ◌-◌, length, arith}
use Rattle.desk.specs.Columns.{sheet_of}
use Rattle.desk.proofs.Refining.{below_header, inside}
use Rattle.desk.proofs.job.Job.contents.Goals as goal

pub returns-clause-long : goal.returns-clause-long
returns-clause-long c =
    let (text, read) = c.requires in
    let s = sheet_of c.args.self.now in
    let column = c.in_ok-column.column in
    let contents = c.in_ok-contents.field-0 in
    let e : length contents.items ≡ length s.records - 1 = below_header text s read column contents.items (c.in_ok-contents.ensures.inside (inside text s read c.args.name.now column c.in_ok-column.ensures)) in
    omega (arith, e, contents.ok.0, c.args.self.now.table.now.records.ok.0)
