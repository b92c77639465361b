use Rattle.std.proofs.Common.{rules}
use Rattle.table.proofs.Plains.{breaks}
use Rattle.table.proofs.field.plain_fault.Goals as goal

pub returns : goal.returns
returns c = breaks c.args.rest.now c.requires.stray c.requires.special (search rules)
