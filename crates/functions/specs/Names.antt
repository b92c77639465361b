-- The words that name window functions.
use Rattle.std.specs.Prelude.{◌≡◌, ℕ, List, codes, Result, MatchResult}
use Rattle.functions.specs.declared.name.Name.{Name}
use Rattle.functions.specs.declared.name.Name.TheVariants.{Lag, Lead, First, Last, Nth, Rank, DenseRank, RowNumber, PercentRank, CumeDist}
use Rattle.functions.specs.declared.name.UnknownName.{UnknownName}

-- the word of a function
abbrev pub name_text : Name → List ℕ
name_text Lag = codes "lag"
name_text Lead = codes "lead"
name_text First = codes "first"
name_text Last = codes "last"
name_text Nth = codes "nth"
name_text Rank = codes "rank"
name_text DenseRank = codes "dense"
name_text RowNumber = codes "rownum"
name_text PercentRank = codes "percent"
name_text CumeDist = codes "cume"

-- r is the function that the word names, and an error where it names none
abbrev pub NamesFunction : List ℕ → Result Name UnknownName → Type 0
NamesFunction word r = MatchResult r (λ n. word ≡ name_text n) (λ _. (n : Name) → ¬ (word ≡ name_text n))
