use Rattle.std.proofs.Common.{get_or}
use Rattle.std.proofs.lemmas.List.{get_or_default}
use Rattle.wire.specs.Lists.{span_of}
use Rattle.wire.proofs.Fronts.{one_more}
use Rattle.wire.proofs.whole.write_spans.Goals as goal

pub loop-k-preserved : goal.loop-k-preserved
loop-k-preserved c =
    let f = get_or c.args.groups.now c.loop-k.k (0, 0) in
    one_more span_of c.args.groups.now c.loop-k.k c.args.spans.now c.loop-k.spans f c.loop-k-test.true c.requires (get_or_default c.args.groups.now c.loop-k.k (0, 0) f c.loop-k-test.true) c.loop-k.invariant
