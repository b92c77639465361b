use Rattle.std.proofs.Common.{rules}
use Rattle.std.proofs.lemmas.List.Sorted.{answers_always}
use Rattle.desk.proofs.Parted.{collected}
use Rattle.desk.proofs.given.parts_of.Goals as goal

pub returns : goal.returns
returns c = collected _ c.chunk_by.result c.collect.result c.args.turns.now c.collect.ensures.ran c.chunk_by.ensures.rest (answers_always _ _ _ (λ f a r q h. search rules))
