-- The names of kinds of value. Assumes nothing.
use Rattle.std.specs.Prelude.{◌≡◌, ℕ, List, codes, Result, MatchResult}
use Rattle.options.specs.declared.asked.UnknownKind.{UnknownKind}
use Rattle.options.specs.declared.asked.ValueKind.{ValueKind}
use Rattle.options.specs.declared.asked.ValueKind.TheVariants.{Instant, Pseudonym, Code, Outcome}

-- the name of a kind
abbrev pub kind_text : ValueKind → List ℕ
kind_text Instant = codes "instant"
kind_text Pseudonym = codes "pseudonym"
kind_text Code = codes "code"
kind_text Outcome = codes "outcome"

-- r is the kind that the word names, and an error where it names none
abbrev pub NamesKind : List ℕ → Result ValueKind UnknownKind → Type 0
NamesKind word r = MatchResult r (λ k. word ≡ kind_text k) (λ _. (k : ValueKind) → ¬ (word ≡ kind_text k))
