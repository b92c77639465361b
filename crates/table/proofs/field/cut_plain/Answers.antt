use Rattle.std.proofs.Common.{rules}
use Rattle.table.proofs.Plains.{special_next, cut_plainly}
use Rattle.table.proofs.field.cut_plain.Goals as goal

pub plain_fault-requires-clause-special : goal.plain_fault-requires-clause-special
plain_fault-requires-clause-special c = special_next c.args.text.now _ _ c.split_at.ensures.back (search rules) c.plain_end-at.ensures.stops

pub returns-in-Some : goal.returns-in-Some
returns-in-Some c = cut_plainly c.args.text.now _ _ _ _ c.split_at.ensures.front c.split_at.ensures.back c.plain_end-at.ensures.plain c.in-Some.ensures
