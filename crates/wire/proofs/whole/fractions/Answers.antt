use Rattle.wire.proofs.Ends.{done_told}
use Rattle.wire.proofs.whole.fractions.Goals as goal

pub returns : goal.returns
returns g c = done_told _ _ _ _ _ _ c.of_unit.ensures c.try_fractions.ensures
