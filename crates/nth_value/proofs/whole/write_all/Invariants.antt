use Rattle.std.proofs.Common.{◌≡◌, ℕ, length, get_or}
use Rattle.column.specs.Cells.{column_cells}
use Rattle.column.proofs.Writes.{Written}
use Rattle.present.specs.Present.{at}
use Rattle.nth_value.specs.Frames.{cell_of}
use Rattle.column.specs.Windows.{window_end}
use Rattle.nth_value.specs.Cursors.{Knows, finds}
use Rattle.nth_value.proofs.whole.write_all.Given as goal

-- the cursor knows what it has to, and finds what the first one finds
abbrev pub invariant-loop-i : goal.invariant-loop-i
invariant-loop-i g l =
    let o = g.O.Output in
    let rows = column_cells l.column in
    Written o.slots o.stored o.size o.place (λ i. cell_of (at rows) (finds l.initial.cursor rows (get_or l.frames i (0, 0)))) (length l.column.values.now) l.i l.initial.out l.out
    × Knows (window_end (record { begin = 0; rows = l.column })) rows l.cursor
    × ((f : ℕ × ℕ) → finds l.cursor rows f ≡ finds l.initial.cursor rows f)
