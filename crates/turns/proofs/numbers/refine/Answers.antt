use Rattle.std.proofs.lemmas.Result.{IfOk-weaker}
use Rattle.turns.specs.Numbers.{ByBytes}
use Rattle.turns.proofs.Alike.{alike}
use Rattle.turns.proofs.Compares.{refined_texts}
use Rattle.turns.proofs.numbers.refine.Goals as goal

pub returns-clause-same : goal.returns-clause-same
returns-clause-same c = IfOk-weaker c.refine_by.result _ _ (λ v n. let by : ByBytes c.args.numbers.now c.args.contents.now v.items = refined_texts c.args.numbers.now c.args.contents.now c.in_ok-cells.cells.items v.items c.in_ok-cells.ensures (rw (← c.as_slice.ensures.value) n) in alike c.args.numbers.now c.args.contents.now v.items by) c.refine_by.ensures

pub returns-clause-order : goal.returns-clause-order
returns-clause-order c = IfOk-weaker c.refine_by.result _ _ (λ v n. refined_texts c.args.numbers.now c.args.contents.now c.in_ok-cells.cells.items v.items c.in_ok-cells.ensures (rw (← c.as_slice.ensures.value) n)) c.refine_by.ensures
