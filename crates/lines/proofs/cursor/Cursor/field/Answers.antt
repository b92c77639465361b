use Rattle.std.proofs.Common.{rules}
use Rattle.lines.proofs.cursor.Cursor.field.Goals as goal

pub returns-clause-filled : goal.returns-clause-filled
returns-clause-filled c = λ k h e. search (rules, c.run.ensures.each k h)
