-- How texts of help begin. Assumes nothing.
use Rattle.std.specs.Prelude.{◌≡◌, ℕ, ◌+◌, ◌/◌, ◌%◌, List, [], ◌∷◌, ◌++◌, IsTrue, codes, nat_eq, nat_lt, if◌then◌else◌}
use Rattle.std.specs.List.{starts_with}
use Rattle.options.specs.declared.function.Function.{Function}
use Rattle.options.specs.declared.command.Topic.{Topic}
use Rattle.options.specs.declared.command.Topic.TheVariants.{Program}
use Rattle.options.specs.declared.command.Topic.TheVariants as topics
use Rattle.options.specs.Functions.{function_text}
use Rattle.help.specs.declared.topics.TheConstants.{PROGRAM}

-- the digits of a number below 100
abbrev pub short_decimal : ℕ → List ℕ
short_decimal n = if nat_lt n 10 then (48 + n) ∷ [] else (48 + n / 10) ∷ (48 + n % 10) ∷ []

-- a text begins with a number below 100 and a colon
abbrev pub Numbered : ℕ → List ℕ → Type 0
Numbered number text = IsTrue (starts_with nat_eq text (short_decimal number ++ codes ": "))

-- a text begins as a call of a function does
abbrev pub Calls : Function → List ℕ → Type 0
Calls f text = IsTrue (starts_with nat_eq text (codes "window " ++ (function_text f ++ codes " ")))

-- the text of a topic: the program's own, or one that begins as a call of the function
abbrev pub Explains : Topic → List ℕ → Type 0
Explains Program text = text ≡ PROGRAM.now
Explains (topics.Function f) text = Calls f text
