use Rattle.std.proofs.Common.{rules}
use Rattle.desk.specs.Answers.{parted}
use Rattle.desk.specs.Columns.{sheet_of}
use Rattle.desk.proofs.Reasons.{why_one}
use Rattle.desk.proofs.job.Job.answer_rows.Goals as goal

pub returns-in_err-answers-clause-refused : goal.returns-in_err-answers-clause-refused
returns-in_err-answers-clause-refused g c =
    let e = g.E.Evaluator in
    let given = c.args.given.now in
    let why = why_one (sheet_of c.args.self.now) c.args.self.now.asked.now g.K.Kind.same e.WANTS_FRAMES e.WANTS_GROUPS given.frame given.cells.now (parted given.turns.now) c.in_err-answers.field-0.0 c.in_err-answers.ensures.refused in
    search (rules, why)
