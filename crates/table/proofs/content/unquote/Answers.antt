use Rattle.table.proofs.Undoubled.{says_between}
use Rattle.table.proofs.content.unquote.Goals as goal

pub returns : goal.returns
returns c = says_between c.args.raw.now c.in-Some.body.now c.in-Some.ensures.0 c.in-Some.ensures.1 c.contains.result c.contains.ensures.cases c.if-contains.false
