use Rattle.std.proofs.lemmas.Result.{IfOk-weaker}
use Rattle.turns.proofs.Compares.{refined_cells}
use Rattle.turns.proofs.numbers.refine_by.Goals as goal

pub returns : goal.returns
returns g c = IfOk-weaker c.number_keys.result _ _ (λ v n. refined_cells g.met.T.Ord.total c.args.null c.args.numbers.now c.args.cells.now c.in_ok-keys.keys.items v.items c.in_ok-keys.ensures (rw (← c.as_slice.ensures.value) n)) c.number_keys.ensures
