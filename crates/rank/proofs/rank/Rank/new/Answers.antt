use Rattle.rank.proofs.Laws.{rank_law}
use Rattle.rank.proofs.rank.Rank.new.Goals as goal

pub returns-clause-law : goal.returns-clause-law
returns-clause-law g c = rank_law g.K.Kind.same g.met.K.Kind.reflexive g.met.K.Kind.symmetric g.met.K.Kind.transitive
