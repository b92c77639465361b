use Rattle.std.proofs.Common.{subst, sym}
use Rattle.desk.specs.Texts.{AllRows}
use Rattle.desk.proofs.job.Job.ranked.Goals as goal

pub of_order-requires-clause-rows : goal.of_order-requires-clause-rows
of_order-requires-clause-rows c = subst (λ ts. AllRows c.args.self.now.table.now.records.items ts) (sym c.as_slice-2.ensures.value) c.requires.rows
