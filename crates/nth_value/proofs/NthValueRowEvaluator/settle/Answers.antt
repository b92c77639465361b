use Rattle.nth_value.proofs.Calls.{settle-call}
use Rattle.nth_value.proofs.NthValueRowEvaluator.settle.Goals as goal

pub returns-clause-call : goal.returns-clause-call
returns-clause-call g c = settle-call c.args.self.now c.args.next c.args.last c.settled-self.result c.settled-self.ensures
