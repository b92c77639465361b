use Rattle.std.proofs.Common.{◌≡◌, ◌+◌, length, refl, add-one, arith}
use Rattle.column.proofs.Writes.{none_written, one_more}
use Rattle.rank.proofs.Covers.{start_at, starts, past_last, placed, within}
use Rattle.rank.proofs.graded.write_graded.Goals as goal

pub loop-number-init : goal.loop-number-init
loop-number-init g c =
    let o = g.O.Output in
    rw (starts c.args.groups.now 0 c.args.rows c.requires.covers) (none_written o.slots o.stored o.size o.place o.laws _ _ _ c.requires.room)

pub grade-grade-requires : goal.grade-grade-requires
grade-grade-requires g c = within c.args.groups.now c.args.rows c.loop-number.number c.requires.covers c.requires.limited (omega arith)

pub loop-row-init : goal.loop-row-init
loop-row-init g c =
    rw (placed c.args.groups.now 0 c.args.rows c.loop-number.number c.requires.covers (omega arith)).begins c.loop-number.invariant

pub put-requires : goal.put-requires
put-requires g c =
    let p = placed c.args.groups.now 0 c.args.rows c.loop-number.number c.requires.covers (omega arith) in
    omega (arith, p.inside, c.loop-row.invariant.room)

pub loop-row-preserved : goal.loop-row-preserved
loop-row-preserved g c =
    let o = g.O.Output in
    let p = placed c.args.groups.now 0 c.args.rows c.loop-number.number c.requires.covers (omega arith) in
    one_more o.slots o.stored o.size o.place o.laws _ _ _ _ _ _ _ c.loop-row.invariant c.put.ensures.slots c.put.ensures.place (rw (p.holds c.loop-row.row (omega arith) (omega arith)) c.grade-grade.ensures)

pub loop-number-preserved : goal.loop-number-preserved
loop-number-preserved g c =
    let p = placed c.args.groups.now 0 c.args.rows c.loop-number.number c.requires.covers (omega arith) in
    let e : c.loop-row.row ≡ start_at c.args.groups.now c.args.rows (c.loop-number.number + 1) = rw add-one (omega (arith, p.ends, p.nonempty)) in
    rw (← e) c.loop-row.invariant

pub returns-clause-slots : goal.returns-clause-slots
returns-clause-slots g c =
    let k : c.loop-number.number ≡ length c.args.groups.now = omega arith in
    let e : start_at c.args.groups.now c.args.rows c.loop-number.number ≡ c.args.rows = rw (k, past_last) refl in
    rw e at c.loop-number.invariant.holds
