use Rattle.std.proofs.Common.{◌≡◌, ℕ, ◌-◌}
use Rattle.std.specs.List.{slice_get}
use Rattle.column.specs.Cells.{view}
use Rattle.present.specs.Present.{ahead}
use Rattle.column.specs.Windows.{window_end}
use Rattle.nth_value.proofs.cursor.Reached.find.Given as goal

abbrev pub invariant-loop-row : goal.invariant-loop-row
invariant-loop-row g l =
    (l.self.m ≡ l.initial.self.m)
    × ((j : ℕ) → l.initial.self.found ≡ slice_get (ahead (view l.window) l.initial.self.start (window_end l.window - l.initial.self.start)) j → l.self.found ≡ slice_get (ahead (view l.window) l.row (window_end l.window - l.row)) j)
