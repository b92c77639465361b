use Rattle.std.proofs.Common.{subst, sym}
use Rattle.desk.specs.Texts.{AllRows}
use Rattle.desk.proofs.job.Job.answer.Goals as goal

pub valued-requires-clause-rows : goal.valued-requires-clause-rows
valued-requires-clause-rows c = subst (λ ts. AllRows c.args.self.now.table.now.records.items ts) (sym c.as_slice-turns.ensures.value) c.in_ok-layout.ensures.rows

pub valued-requires-in-Pseudonym-clause-rows : goal.valued-requires-in-Pseudonym-clause-rows
valued-requires-in-Pseudonym-clause-rows c = subst (λ ts. AllRows c.args.self.now.table.now.records.items ts) (sym c.as_slice-turns.ensures.value) c.in_ok-layout.ensures.rows

pub valued-requires-in-Code-clause-rows : goal.valued-requires-in-Code-clause-rows
valued-requires-in-Code-clause-rows c = subst (λ ts. AllRows c.args.self.now.table.now.records.items ts) (sym c.as_slice-turns.ensures.value) c.in_ok-layout.ensures.rows

pub valued-requires-in-Outcome-clause-rows : goal.valued-requires-in-Outcome-clause-rows
valued-requires-in-Outcome-clause-rows c = subst (λ ts. AllRows c.args.self.now.table.now.records.items ts) (sym c.as_slice-turns.ensures.value) c.in_ok-layout.ensures.rows
