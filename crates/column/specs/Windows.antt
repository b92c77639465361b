-- Where a window ends.
use Rattle.std.specs.Prelude.{ℕ, ◌+◌, ◌-◌, ◌^◌, min, length}
use Rattle.column.specs.declared.column.Window.{Window}

-- the greatest number that a row can have
abbrev pub greatest_row : ℕ
greatest_row = 2 ^ 64 - 1

-- the row after the window's last, or the greatest number where it lies above that
abbrev pub window_end : {V : Type 0} → Window V → ℕ
window_end w = min (w.begin + length w.rows.values.now) greatest_row
