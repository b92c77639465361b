use Rattle.partition.specs.Walk.{groups_left}
use Rattle.partition.proofs.Along.{front_step}
use Rattle.partition.proofs.peers.write_groups.Goals as goal

pub loop-k-preserved : goal.loop-k-preserved
loop-k-preserved g c =
    let s = c.in-Some.ensures.steps in
    front_step (groups_left g.K.Kind.same c.args.own) c.args.groups.now c.loop-k.groups _ _ _ _ _ _ c.loop-k.invariant.0 c.loop-k.invariant.1 c.requires s.0 s.1 s.2
