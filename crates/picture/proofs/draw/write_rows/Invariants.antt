use Rattle.std.proofs.Common.{◌≡◌, ◌++◌, drop, string_bytes}
use Rattle.picture.specs.Picture.{rows_text}
use Rattle.picture.proofs.draw.write_rows.Given as goal

-- the rows so far, and those that are left
abbrev pub invariant-loop-i : goal.invariant-loop-i
invariant-loop-i l = string_bytes l.text ++ rows_text l.i (drop l.i l.rows) ≡ string_bytes l.initial.text ++ rows_text 0 l.rows
