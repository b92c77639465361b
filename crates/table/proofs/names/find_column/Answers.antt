use Rattle.table.proofs.Naming.{one_column}
use Rattle.table.proofs.names.find_column.Goals as goal

pub returns-in-None : goal.returns-in-None
returns-in-None c = one_column c.args.names.now c.args.name.now c.in-Some.first c.in-Some.ensures.1 c.in-Some.ensures.2 c.in-None.ensures
