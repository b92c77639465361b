-- The texts of lists that cannot be read.
use Rattle.std.specs.Prelude.{ℕ, List, ◌++◌, codes, decimal}
use Rattle.replayed.specs.declared.wrong.Wrong.{Wrong}
use Rattle.replayed.specs.declared.wrong.Wrong.TheVariants.{At, Memory}

-- where reading stops, or want of memory
abbrev pub wrong_text : Wrong → List ℕ
wrong_text Memory = codes " not enough memory"
wrong_text (At line column) = decimal line ++ (codes ":" ++ (decimal column ++ codes ": this cannot be read"))
