use Rattle.nth_value.proofs.Calls.{fresh_stands}
use Rattle.nth_value.proofs.NthValueEvaluator.fresh.Goals as goal

pub returns-clause-stands : goal.returns-clause-stands
returns-clause-stands g c = fresh_stands c.new.result _ _ c.new.ensures.is
