use Rattle.std.specs.Prelude.{◌≡◌, ◌≤◌, ℕ, List, drop, slice_range}
use Rattle.lines.specs.declared.cursor.Cursor.{Cursor}

-- The same line, at the same place or further on.
abbrev pub Onward : Cursor → Cursor → Type 0
Onward a b = (b.text.now ≡ a.text.now) × (a.at ≤ b.at)

-- the text of the line from the place of a to that of b
abbrev pub passed : Cursor → Cursor → List ℕ
passed a b = slice_range a.text.now a.at b.at

-- the text of the line from the place of a on
abbrev pub ahead : Cursor → List ℕ
ahead a = drop a.at a.text.now
