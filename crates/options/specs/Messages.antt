-- The texts of misuses. Assumes nothing.
use Rattle.std.specs.Prelude.{ℕ, List, ◌++◌, codes, decimal}
use Rattle.options.specs.declared.frame_text.FrameProblem.{FrameProblem}
use Rattle.options.specs.declared.frame_text.FrameProblem.TheVariants.{NoRows, NoBound, NoSide, NoRow, NoAnd, WordBehind, StartsLast, EndsFirst, StartBehindEnd}
use Rattle.options.specs.declared.misuse.Misuse.{Misuse}
use Rattle.options.specs.declared.misuse.Misuse.TheVariants.{Memory, NoFunction, UnknownFunction, UnknownOption, WithoutValue, Twice, NotTaken, Missing, NoNumber, UnknownKind, BadRows, BadFrame, TooManyWords, NoRefusal, UnknownRefusal}
use Rattle.options.specs.Functions.{function_text}
use Rattle.options.specs.Keys.{key_text}

-- what a frame's text lacks, or what SQL refuses of it
abbrev pub problem_text : FrameProblem → List ℕ
problem_text NoRows = codes "a frame begins with ROWS"
problem_text NoBound = codes "a bound has to come here: UNBOUNDED, CURRENT ROW or a number of rows"
problem_text NoSide = codes "PRECEDING or FOLLOWING has to come here"
problem_text NoRow = codes "ROW has to come here"
problem_text NoAnd = codes "AND has to come here"
problem_text WordBehind = codes "the frame has ended before this word"
problem_text StartsLast = codes "a frame may not start at UNBOUNDED FOLLOWING"
problem_text EndsFirst = codes "a frame may not end at UNBOUNDED PRECEDING"
problem_text StartBehindEnd = codes "the frame starts behind its end"

-- what is wrong
abbrev pub misuse_text : Misuse → List ℕ
misuse_text Memory = codes "not enough memory"
misuse_text NoFunction = codes "no function is named"
misuse_text (UnknownFunction word) = codes "\"" ++ (word.now ++ codes "\" is no function")
misuse_text (UnknownOption word) = codes "\"" ++ (word.now ++ codes "\" is no option")
misuse_text (WithoutValue key) = key_text key ++ codes " has no value behind it"
misuse_text (Twice key) = key_text key ++ codes " is given twice"
misuse_text (NotTaken f key) = function_text f ++ (codes " takes no " ++ key_text key)
misuse_text (Missing f key) = function_text f ++ (codes " needs " ++ key_text key)
misuse_text (NoNumber key text) = key_text key ++ (codes " is no number of rows from 1 on: \"" ++ (text.now ++ codes "\""))
misuse_text (UnknownKind text) = codes "--kind is instant, pseudonym, code or outcome, and not \"" ++ (text.now ++ codes "\"")
misuse_text (BadRows text) = codes "--rows is FROM-TO, two row numbers, and not \"" ++ (text.now ++ codes "\"")
misuse_text (BadFrame text fault) = codes "--frame \"" ++ (text.now ++ (codes "\", column " ++ (decimal fault.column ++ (codes ": " ++ problem_text fault.problem))))
misuse_text (TooManyWords word) = codes "\"" ++ (word.now ++ codes "\" is one word too many")
misuse_text NoRefusal = codes "no number of a refusal is given"
misuse_text (UnknownRefusal word) = codes "refusals have the numbers 1 to 20, and not \"" ++ (word.now ++ codes "\"")
