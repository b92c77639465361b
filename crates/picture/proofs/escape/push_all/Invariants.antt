use Rattle.std.proofs.Common.{◌≡◌, ◌++◌, take, string_bytes}
use Rattle.std.specs.List.{flat_map}
use Rattle.picture.specs.Escape.{escaped}
use Rattle.picture.proofs.escape.push_all.Given as goal

-- the characters so far stand behind the text
abbrev pub invariant-loop-c : goal.invariant-loop-c
invariant-loop-c l = string_bytes l.text ≡ string_bytes l.initial.text ++ flat_map escaped (take l.c-index l.chars)
