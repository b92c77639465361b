use Rattle.std.proofs.Common.{refl, subst}
use Rattle.table.specs.Names.{NotColumn}
use Rattle.desk.proofs.job.Job.find.Goals as goal

pub returns-in-Err : goal.returns-in-Err
returns-in-Err c = (c.in-Err.why, refl, subst (λ n. NotColumn c.args.self.now.names.now n c.in-Err.why) c.as_bytes.ensures.value c.in-Err.ensures)
