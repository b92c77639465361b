use Rattle.std.proofs.Common.{rules}
use Rattle.std.proofs.lemmas.Iterator.{YieldsList-from_map_by, YieldsList-from_slice}
use Rattle.std.proofs.lemmas.Iterator.Consumers.{YieldsList-at, map_from_collect}
use Rattle.table.specs.Contents.{bytes_of}
use Rattle.desk.proofs.answer.bytes_of_all.Goals as goal

pub returns : goal.returns
returns c = map_from_collect _ c.collect.ensures.ran (YieldsList-from_map_by _ (λ n. n.now) bytes_of (YieldsList-at c.map.ensures.source (YieldsList-from_slice c.args.contents.now c.iter.ensures.rest)) c.map.ensures.closure (λ x r q h. search rules))
