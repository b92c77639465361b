use Rattle.std.proofs.Common.{length, ap, arith, rules}
use Rattle.sessions.proofs.Texts.{nulls_few, text_is}
use Rattle.sessions.proofs.report.report.Goals as goal

pub write_summary-requires : goal.write_summary-requires
write_summary-requires c = omega (arith, c.count_nulls.ensures, nulls_few c.as_slice-cells.result.now, ap length c.as_slice-cells.ensures.value, c.in-Ok.ensures.0.all)

pub returns : goal.returns
returns c = record {
  header = c.in_ok-table.table.header.now;
  rows = c.as_slice-records.result.now;
  answers = c.as_slice-cells.result.now;
  sessions = c.in-Ok.answers.sessions;
  read = search rules;
  renewed = search rules;
  counted = search rules;
  written = text_is c.in_ok-table.table.header.now c.as_slice-records.result.now c.as_slice-cells.result.now c.in-Ok.answers.sessions c.count_empty.result c.count_nulls.result _ _ _ c.in_ok-out.ensures c.in_ok-write_rows.ensures c.count_empty.ensures c.count_nulls.ensures c.in_ok-write_summary.ensures;
}
