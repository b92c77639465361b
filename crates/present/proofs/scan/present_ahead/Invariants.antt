use Rattle.std.proofs.Common.{◌≡◌, ◌-◌}
use Rattle.std.specs.List.{slice_get}
use Rattle.column.specs.Cells.{view}
use Rattle.present.specs.Present.{ahead}
use Rattle.present.proofs.scan.present_ahead.Given as goal

-- what is left of the rows has the row looked for
abbrev pub invariant-loop-row : goal.invariant-loop-row
invariant-loop-row g l = slice_get (ahead (view l.window) l.from (l.end - l.from)) (l.m - 1) ≡ slice_get (ahead (view l.window) l.row (l.end - l.row)) (l.left - 1)
