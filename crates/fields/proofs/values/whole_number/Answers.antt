use Rattle.std.proofs.Common.{rules}
use Rattle.fields.proofs.Numerals.{numeral_utf8}
use Rattle.fields.proofs.values.whole_number.Goals as goal

pub returns-in_err-ok : goal.returns-in_err-ok
returns-in_err-ok c = let utf8 = numeral_utf8 c.args.content.now in search (rules, utf8)
