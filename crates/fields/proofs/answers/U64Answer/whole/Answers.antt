use Rattle.std.proofs.Common.{rules, length}
use Rattle.partition.specs.Table.{input, row_count, whole_refusal}
use Rattle.fields.proofs.Stopped.{stopped}
use Rattle.fields.proofs.answers.U64Answer.whole.Goals as goal

pub returns-in-Err-clause-refused : goal.returns-in-Err-clause-refused
returns-in-Err-clause-refused g c =
    stopped (whole_refusal g.K.Kind.same g.E.Evaluator.WANTS_FRAMES g.E.Evaluator.WANTS_GROUPS (input c.args.rows.now)) (length c.as_mut_slice.result.now) (row_count (input c.args.rows.now)) _ c.in-Err.fault c.evaluate_numbers.ensures.call.outcome (search rules) (search rules)
