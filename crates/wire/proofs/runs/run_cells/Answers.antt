use Rattle.wire.proofs.Told.{run_told}
use Rattle.wire.proofs.runs.run_cells.Goals as goal

pub returns : goal.returns
returns g c = run_told _ _ c.args.function.now _ _ _ _ _ _ _ c.write_ending.ensures c.try_run_cells-ended.ensures
