-- Texts as XML writes them. Assumes nothing.
use Rattle.std.specs.Prelude.{ℕ, List, [], ◌++◌, codes, take, length, nat_eq, nat_lt, encode_utf8, if◌then◌else◌}
use Rattle.std.specs.List.{flat_map}
use Rattle.std.specs.Str.{chars}

-- a character, or the entity that stands for it: of <, >, & and the double quote
abbrev pub escaped : ℕ → List ℕ
escaped c = if nat_eq c 60 then codes "&lt;" else (if nat_eq c 62 then codes "&gt;" else (if nat_eq c 38 then codes "&amp;" else (if nat_eq c 34 then codes "&quot;" else encode_utf8 c)))

-- an ellipsis, where a text has more characters than are shown
abbrev pub ellipsis : ℕ → ℕ → List ℕ
ellipsis width count = if nat_lt width count then encode_utf8 8230 else []

-- what is shown of a text: its first characters
abbrev pub shown : ℕ → List ℕ → List ℕ
shown width bs = flat_map escaped (take width (chars bs)) ++ ellipsis width (length (chars bs))
