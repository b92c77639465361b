-- How values of a kind cross.
use Rattle.std.specs.Prelude.{◌≡◌, ℕ, Bool, ◌&&◌, false, List, map, position, None, Option}
use Rattle.column.specs.declared.kind.LoginOutcome.{LoginOutcome}
use Rattle.column.specs.Kinds.{same_instant, same_code}
use Rattle.wire.specs.declared.kinds.InstantCode.{InstantCode}
use Rattle.wire.specs.declared.kinds.OutcomeNumbers.{OutcomeNumbers}
use Rattle.wire.specs.Outcomes.{numbers_of, flawed, outcome_of}

-- an instant beside a code, by both parts, as the pair of the two
abbrev pub same_instant_code : InstantCode → InstantCode → Bool
same_instant_code x y = same_instant x.instant y.instant && same_code x.code y.code

-- what C has for a value, and what that stands for
pub record Coding (V N : Type 0) : Type 0 where
  pub encoded : V → N
  pub flawed : N → Bool
  pub decoded : N → V
  -- the first flaw of a list, and the values of one without
  pub flaws : List N → Option ℕ
  pub decodes : List N → List V

-- a value as it is
abbrev pub plain_coding : {V : Type 0} → Coding V V
plain_coding = record { encoded = λ v. v; flawed = λ v. false; decoded = λ v. v; flaws = λ vs. None; decodes = λ vs. vs }

-- a login outcome
abbrev pub outcome_coding : Coding LoginOutcome OutcomeNumbers
outcome_coding = record { encoded = numbers_of; flawed = flawed; decoded = outcome_of; flaws = position flawed; decodes = map outcome_of }

-- what a coding owes: a value is read back from what C has for it, and what C has without a flaw is that of its value
pub record CodingLaws {V N : Type 0} (k : Coding V N) : Type 0 where
  pub fine : (v : V) → k.flawed (k.encoded v) ≡ false
  pub back : (v : V) → k.decoded (k.encoded v) ≡ v
  pub only : (n : N) → k.flawed n ≡ false → k.encoded (k.decoded n) ≡ n
  -- lists go value by value
  pub flaws : (ns : List N) → k.flaws ns ≡ position k.flawed ns
  pub decodes : (ns : List N) → k.decodes ns ≡ map k.decoded ns
