use Rattle.std.proofs.Common.{rules}
use Rattle.replayed.proofs.script.refusal.Goals as goal

pub returns : goal.returns
returns c = (c.meaning-meaning.result.now, search rules)
