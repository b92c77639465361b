use Rattle.column.proofs.Writes.{Written}
use Rattle.rank.specs.Groups.{graded_by}
use Rattle.rank.proofs.Covers.{start_at}
use Rattle.rank.proofs.graded.write_graded.Given as goal

-- the rows before group `number` are written
abbrev pub invariant-loop-number : goal.invariant-loop-number
invariant-loop-number g l =
    let o = g.O.Output in
    Written o.slots o.stored o.size o.place (graded_by (g.G.Graded.graded l.function) l.groups l.rows) l.rows (start_at l.groups l.rows l.number) l.fn.out l.out

-- the rows before `row` are written
abbrev pub invariant-loop-row : goal.invariant-loop-row
invariant-loop-row g l =
    let o = g.O.Output in
    Written o.slots o.stored o.size o.place (graded_by (g.G.Graded.graded l.function) l.groups l.rows) l.rows l.row l.fn.out l.out
