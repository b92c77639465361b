use Rattle.std.proofs.Common.{vec_items, arith}
use Rattle.sessions.specs.Sessions.{lists}
use Rattle.sessions.specs.Names.{number_in}
use Rattle.sessions.proofs.Grouping.{grouped_turn, grouped_all, first_full, in_range}
use Rattle.sessions.proofs.partitions.partition.Goals as goal

pub loop-i-preserved : goal.loop-i-preserved
loop-i-preserved c = grouped_turn c.loop-i.cells _ _ c.in_ok-session.session c.loop-i-test.true c.loop-i.invariant c.len.ensures c.in_ok-session.ensures c.in_ok-row.row c.append.new.all (vec_items c.push.new.self) c.in_ok-row.ensures.after c.in_ok-row.ensures.row (omega arith) c.in_ok-push.ensures.items

pub append-requires : goal.append-requires
append-requires c = in_range c.loop-i.cells _ _ c.in_ok-session.session c.loop-i-test.true c.loop-i.invariant c.len.ensures c.in_ok-session.ensures

pub returns-then-row-ge-ROW_LIMIT : goal.returns-then-row-ge-ROW_LIMIT
returns-then-row-ge-ROW_LIMIT c = first_full c.loop-i.cells _ _ c.in_ok-session.session c.loop-i-test.true c.loop-i.invariant c.len.ensures c.in_ok-session.ensures c.in_ok-row.row c.in_ok-row.ensures.row c.if-row-ge-ROW_LIMIT.true

pub returns : goal.returns
returns c = grouped_all c.args.records.now (number_in c.loop-i.numbers) c.loop-i.i (lists c.loop-i.cells) (vec_items c.loop-i.places) c.loop-i.invariant (omega arith)
