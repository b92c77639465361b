use Rattle.std.proofs.Common.{inr, codes, rules}
use Rattle.lines.proofs.Passed.{led}
use Rattle.drive.proofs.Parts.{field_ends, field_filled}
use Rattle.drive.proofs.ops.pass_outcome.Goals as goal

pub returns-then-take-clause-outcome : goal.returns-then-take-clause-outcome
returns-then-take-clause-outcome c =
    let taken = c.take.new.self in
    let end = c.field.new.self in
    inr (_, led c.args.cursor.now taken end (codes ">") c.take.ensures.onward c.field.ensures.onward (c.take.ensures.text (search rules)), field_filled taken end c.field.ensures.filled, field_ends taken end c.field.ensures.onward c.field.ensures.stops)
