use Rattle.std.proofs.Common.{arith}
use Rattle.std.proofs.lemmas.Str.Pattern.{split_parts}
use Rattle.fields.proofs.values.halves.Goals as goal

pub returns : goal.returns
returns c = split_parts 58 _ c.split_once.result c.split_once.ensures.cases (omega arith)
