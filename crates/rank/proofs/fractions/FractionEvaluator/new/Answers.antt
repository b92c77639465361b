use Rattle.rank.proofs.Steps.{group_law}
use Rattle.rank.proofs.fractions.FractionEvaluator.new.Goals as goal

pub returns-clause-law : goal.returns-clause-law
returns-clause-law g c = group_law g.K.Kind.same g.met.K.Kind.reflexive
