use Rattle.std.proofs.Common.{rules, arith}
use Rattle.std.proofs.lemmas.Map.Text.{text_keys}
use Rattle.sessions.proofs.partitions.number_of.Goals as goal

pub returns : goal.returns
returns c = record { number = search rules; names = λ v. grind (arith, text_keys) }
