use Rattle.std.proofs.Common.{rules}
use Rattle.desk.proofs.Refused.{one_refuses}
use Rattle.desk.proofs.given.Given.answer_parts.Goals as goal

pub returns-in_err-more-clause-refused : goal.returns-in_err-more-clause-refused
returns-in_err-more-clause-refused g c =
    let e = g.E.Evaluator in
    let fault = one_refuses g.K.Kind.same e.WANTS_FRAMES e.WANTS_GROUPS c.args.self.now.frame c.args.self.now.cells.now c.args.parts.now c.loop-turns.turns-index _ c.in_err-more.field-0.0 c.loop-turns-test.true c.in_err-more.ensures.refused in
    search (rules, fault)
