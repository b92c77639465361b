use Rattle.std.proofs.lemmas.Result.{err_from_is_err_and}
use Rattle.run.proofs.Asks.{refused_by}
use Rattle.run.proofs.run.Running.request.Goals as goal

pub returns-in_err-check-clause-asked : goal.returns-in_err-check-clause-asked
returns-in_err-check-clause-asked g c =
    let p = err_from_is_err_and c.from_residual.result c.from_residual.ensures.1 in
    refused_by g.E.Evaluator.meaning g.E.Evaluator.WANTS_FRAMES c.WANTS_FRAMES.result c.args.self.now.progress (g.S.Stage.total c.args.self.now.stage) c.total-total.result c.keep_mark-mark.result c.args.window.now c.args.frame c.args.self.now.evaluator p.0 c.in_err-check.field-0.0 c.from_residual.result c.WANTS_FRAMES.ensures c.total-total.ensures c.keep_mark-mark.ensures c.in_err-check.ensures p.1 p.2
