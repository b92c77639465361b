use Rattle.partition.specs.Table.{input}
use Rattle.evaluator.proofs.Mirrors.{mirrored_call}
use Rattle.evaluator.proofs.mirror.evaluate_mirrored.Goals as goal

pub returns-clause-turned : goal.returns-clause-turned
returns-clause-turned g c x q ok = mirrored_call _ _ _ _ _ _ _ _ c.mirror-mirror.ensures _ x (input c.args.rows.now) _ _ _ _ q c.evaluate_all.ensures.call ok
