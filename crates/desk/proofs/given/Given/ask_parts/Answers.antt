use Rattle.std.proofs.Common.{arith}
use Rattle.std.proofs.lemmas.Grind.{common_steps}
use Rattle.desk.specs.Parts.{part}
use Rattle.desk.specs.Runs.{none_told}
use Rattle.desk.proofs.Handing.{took_next}
use Rattle.desk.proofs.given.Given.ask_parts.Goals as goal

pub loop-turns-preserved : goal.loop-turns-preserved
loop-turns-preserved g c =
    let e = g.E.Evaluator in
    let (said, took) = c.loop-turns.invariant in
    (grind (arith, common_steps), took_next e.meaning c.args.evaluator.now (part e.WANTS_FRAMES c.args.self.now.frame c.args.self.now.cells.now) c.args.step none_told c.loop-turns.told c.in_ok-more.taken c.args.parts.now c.loop-turns.turns-index _ c.loop-turns-test.true took c.in_ok-more.ensures.took)
