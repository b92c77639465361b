use Rattle.std.proofs.Common.{rules, sym, ◌∙◌, arith}
use Rattle.partition.specs.Walk.{groups_left}
use Rattle.partition.proofs.Along.{next_differs, next_agrees, all_seen, more_left}
use Rattle.partition.proofs.peers.groups_fault.Goals as goal

pub returns-then-ne : goal.returns-then-ne
returns-then-ne g c = next_differs c.args.groups.now (groups_left g.K.Kind.same c.args.own) c.loop-k.k _ c.loop-k.invariant.0 c.loop-k.invariant.1 _ c.loop-k-test.true c.next.result c.next.ensures.steps (sym c.ne.ensures ∙ c.if-ne.true)

pub loop-k-preserved : goal.loop-k-preserved
loop-k-preserved g c = next_agrees c.args.groups.now (groups_left g.K.Kind.same c.args.own) c.loop-k.k _ c.loop-k.invariant.0 c.loop-k.invariant.1 _ c.next.result c.next.ensures.steps (sym c.ne.ensures ∙ c.if-ne.false)

pub returns-then-is_done : goal.returns-then-is_done
returns-then-is_done g c = all_seen c.args.groups.now (groups_left g.K.Kind.same c.args.own) c.loop-k.k _ c.loop-k.invariant.0 c.loop-k.invariant.1 (omega arith) (c.is_done.ensures.all c.if-is_done.true)

pub returns-else-is_done : goal.returns-else-is_done
returns-else-is_done g c = more_left c.args.groups.now (groups_left g.K.Kind.same c.args.own) c.loop-k.k _ c.loop-k.invariant.0 c.loop-k.invariant.1 (omega arith) (c.is_done.ensures.some c.if-is_done.false)
