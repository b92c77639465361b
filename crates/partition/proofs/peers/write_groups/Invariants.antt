use Rattle.std.proofs.Common.{◌≡◌, ◌++◌, take, drop}
use Rattle.partition.specs.Walk.{groups_left}
use Rattle.partition.proofs.Along.{Left}
use Rattle.partition.proofs.peers.write_groups.Given as goal

abbrev pub invariant-loop-k : goal.invariant-loop-k
invariant-loop-k g l =
    let all = groups_left g.K.Kind.same l.initial.own in
    let k = l.k-iterator.count in
    Left all k (groups_left g.K.Kind.same l.k-iterator.iter) × (l.groups ≡ take k all ++ drop k l.initial.groups)
