use Rattle.partition.specs.Table.{input}
use Rattle.evaluator.proofs.Calls.{call_lists}
use Rattle.evaluator.proofs.numbers.evaluate_numbers.Goals as goal

pub returns-clause-filled : goal.returns-clause-filled
returns-clause-filled g c e = call_lists g.E.Value.Kind.same g.E.Evaluator.WANTS_FRAMES g.E.Evaluator.WANTS_GROUPS (input c.args.rows.now) _ _ _ c.write_numbers.result c.write_numbers.ensures e
