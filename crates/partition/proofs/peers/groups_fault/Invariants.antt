use Rattle.partition.specs.Walk.{groups_left}
use Rattle.partition.proofs.Along.{Left, Agree}
use Rattle.partition.proofs.peers.groups_fault.Given as goal

abbrev pub invariant-loop-k : goal.invariant-loop-k
invariant-loop-k g l =
    let all = groups_left g.K.Kind.same l.initial.own in
    Left all l.k (groups_left g.K.Kind.same l.own) × Agree l.groups all l.k
