-- The texts of refusals. Assumes nothing.
use Rattle.std.specs.Prelude.{ℕ, List, ◌++◌, codes, decimal}
use Rattle.column.specs.Refusal.{row_limit}
use Rattle.sessions.specs.declared.problem.Problem.{Problem}
use Rattle.sessions.specs.declared.problem.Problem.TheVariants.{Empty, NoColumn, ColumnTwice, Quote, Ragged, NoSession, NoNumber, TooManyRecords}
use Rattle.sessions.specs.declared.problem.Refusal.{Refusal}
use Rattle.sessions.specs.declared.problem.Refusal.TheVariants as refusals

-- what is wrong
abbrev pub problem_text : Problem → List ℕ
problem_text Empty = codes "no header: the file is empty"
problem_text (NoColumn name) = codes "no column \"" ++ (name.now ++ codes "\"")
problem_text (ColumnTwice name) = codes "column \"" ++ (name.now ++ codes "\" comes twice")
problem_text Quote = codes "a double quote: quoted fields are not read"
problem_text (Ragged found expected) = decimal found ++ (codes " fields where the header has " ++ decimal expected)
problem_text NoSession = codes "session is empty"
problem_text (NoNumber column text) = column.now ++ (codes " is no whole number of 64 bits: \"" ++ (text.now ++ codes "\""))
problem_text (TooManyRecords name) = codes "session \"" ++ (name.now ++ (codes "\" has more than " ++ (decimal row_limit ++ codes " records")))

-- the line and what is wrong there, or want of memory
abbrev pub refusal_text : Refusal → List ℕ
refusal_text refusals.Memory = codes " not enough memory"
refusal_text (refusals.At line p) = decimal line ++ (codes ": " ++ problem_text p)
