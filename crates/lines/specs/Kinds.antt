-- The names of kinds.
use Rattle.std.specs.Prelude.{◌≡◌, ℕ, List, codes, Result, MatchResult}
use Rattle.lines.specs.declared.kinds.KindName.{KindName}
use Rattle.lines.specs.declared.kinds.KindName.TheVariants.{Instant, Pseudonym, Code, Outcome, InstantCode, OutcomeLogin}
use Rattle.lines.specs.declared.kinds.UnknownKind.{UnknownKind}

-- the name of a kind; a pair's has its parts' names
abbrev pub kind_text : KindName → List ℕ
kind_text Instant = codes "i"
kind_text Pseudonym = codes "p"
kind_text Code = codes "c"
kind_text Outcome = codes "o"
kind_text InstantCode = codes "(i,c)"
kind_text OutcomeLogin = codes "(o,(i,p))"

-- r is the kind that the text names, and an error where it names none
abbrev pub NamesKind : List ℕ → Result KindName UnknownKind → Type 0
NamesKind name r = MatchResult r (λ k. name ≡ kind_text k) (λ _. (k : KindName) → ¬ (name ≡ kind_text k))
