use Rattle.partition.specs.Table.{input}
use Rattle.evaluator.proofs.Calls.{call_fills}
use Rattle.evaluator.proofs.cells.evaluate_cells.Goals as goal

pub returns-clause-filled : goal.returns-clause-filled
returns-clause-filled g c e = call_fills g.K.Kind.same g.E.Evaluator.WANTS_FRAMES g.E.Evaluator.WANTS_GROUPS (input c.args.rows.now) _ _ _ c.write_cells.result c.write_cells.ensures e
