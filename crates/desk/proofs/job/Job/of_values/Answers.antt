use Rattle.std.proofs.Common.{sym, ◌∙◌}
use Rattle.desk.specs.Functions.{laid}
use Rattle.desk.proofs.Picked.{first_asked, last_asked, nth_asked, nth_left}
use Rattle.desk.proofs.job.Job.of_values.Goals as goal

pub returns-in-FirstValue-clause-answers : goal.returns-in-FirstValue-clause-answers
returns-in-FirstValue-clause-answers g c = first_asked g.K.FieldValue.says g.K.FieldValue.text c.args.self.now.asked.now c.args.given.now.frame c.args.given.now.cells.now (laid c.args.self.now c.args.given.now.turns.now) c.answer_rows.result c.requires.frame c.first.result c.first.ensures.is c.in-FirstValue.is c.answer_rows.ensures.answers

pub returns-in-LastValue-clause-answers : goal.returns-in-LastValue-clause-answers
returns-in-LastValue-clause-answers g c = last_asked g.K.FieldValue.says g.K.FieldValue.text c.args.self.now.asked.now c.args.given.now.frame c.args.given.now.cells.now (laid c.args.self.now c.args.given.now.turns.now) c.answer_rows-in-LastValue.result c.requires.frame c.last.result c.last.ensures.is c.in-LastValue.is c.answer_rows-in-LastValue.ensures.answers

pub returns-in-Ok-clause-answers : goal.returns-in-Ok-clause-answers
returns-in-Ok-clause-answers g c =
    let asked = c.args.self.now.asked.now in
    nth_asked g.K.FieldValue.says g.K.FieldValue.text asked c.args.given.now.frame c.args.given.now.cells.now (laid c.args.self.now c.args.given.now.turns.now) c.answer_rows-in-Ok.result c.requires.frame c.in-Ok.nth (sym c.nth.ensures.is ∙ c.in-Ok.is) (nth_left asked.function c.requires.function c.in_default.not-Lag c.in_default.not-Lead c.in_default.not-FirstValue c.in_default.not-LastValue) c.answer_rows-in-Ok.ensures.answers
