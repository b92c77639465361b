use Rattle.std.proofs.Common.{rules}
use Rattle.sessions.specs.Faults.{Unread}
use Rattle.sessions.proofs.Lines.{below_refused}
use Rattle.sessions.proofs.read.read.Goals as goal

pub returns-in_err-records : goal.returns-in_err-records
returns-in_err-records c =
    let bad : Unread c.args.text.now c.in_err-records.field-0.0 = below_refused {line = c.without_end-header.result.now} c.unwrap.result.0.now c.unwrap.result.1.now c.in_ok-columns.columns (search rules) (search rules) (search rules) _ (search rules) in
    search rules

pub returns : goal.returns
returns c = record {
  top = c.unwrap.result.0.now;
  below = c.unwrap.result.1.now;
  lines_are = search rules;
  columns = c.in_ok-columns.columns;
  first = search rules;
  header_read = search rules;
  count = search rules;
  rows_read = search rules;
}
