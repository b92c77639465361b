use Rattle.std.proofs.Common.{◌+◌}
use Rattle.column.proofs.Writes.{Written}
use Rattle.rank.proofs.row_number.write_numbers.Given as goal

abbrev pub invariant-loop-row : goal.invariant-loop-row
invariant-loop-row g l =
    let o = g.O.Output in
    Written o.slots o.stored o.size o.place (λ i. i + 1) l.rows l.row l.initial.out l.out
