-- What fields say of values, and how values are written. Assumes nothing.
use Rattle.std.specs.Prelude.{◌≡◌, ◌≤◌, ◌==◌, ℕ, List, [], ◌∷◌, ◌++◌, ℤ, FitsSigned, codes, decimal, length, take, position, slice_index, Option, Some, None}
use Rattle.std.specs.Fmt.{signed_decimal}
use Rattle.std.specs.Int.{w64, from_be_bytes, to_be_bytes}
use Rattle.std.specs.Str.Parse.{IsNumeral, digits_value, signed_digits_value, without_leading_plus, without_leading_sign}
use Rattle.column.specs.declared.kind.Instant.{Instant}
use Rattle.column.specs.declared.kind.CollegeCode.{CollegeCode}
use Rattle.column.specs.declared.kind.Pseudonym.{Pseudonym}
use Rattle.column.specs.declared.kind.LoginOutcome.{LoginOutcome}
use Rattle.column.specs.declared.kind.LoginOutcome.TheVariants.{Granted, Refused, TimedOut}

-- decimal digits, which a plus sign may precede, and the number that they make
abbrev pub SaysNumber : List ℕ → ℕ → Type 0
SaysNumber bs n = IsNumeral 10 (without_leading_plus bs) × (n ≡ digits_value 10 (without_leading_plus bs))

-- the same, where the sign may be a minus
abbrev pub SaysInstant : List ℕ → Instant → Type 0
SaysInstant bs x = IsNumeral 10 (without_leading_sign bs) × (x.0 ≡ signed_digits_value 10 bs)

-- the same of a number that 64 bits hold
abbrev pub SaysWhole : List ℕ → ℤ → Type 0
SaysWhole bs n = SaysInstant bs (record { 0 = n }) × FitsSigned w64 n

-- the high part, a colon and the low part
abbrev pub SaysPseudonym : List ℕ → Pseudonym → Type 0
SaysPseudonym bs x = (high low : List ℕ) × (bs ≡ high ++ (codes ":" ++ low)) × SaysNumber high x.high × SaysNumber low x.low

-- at most eight bytes, none of them 0: the code is the number that they and zeros make, the first byte highest
abbrev pub SaysCode : List ℕ → CollegeCode → Type 0
SaysCode bs x = (length bs ≤ 8) × (x.0 ≡ from_be_bytes w64 (slice_index bs 0 ∷ slice_index bs 1 ∷ slice_index bs 2 ∷ slice_index bs 3 ∷ slice_index bs 4 ∷ slice_index bs 5 ∷ slice_index bs 6 ∷ slice_index bs 7 ∷ []))

-- a word, and behind that of a refusal the reason
abbrev pub SaysOutcome : List ℕ → LoginOutcome → Type 0
SaysOutcome bs Granted = bs ≡ codes "granted"
SaysOutcome bs (Refused reason) = (digits : List ℕ) × (bs ≡ codes "refused " ++ digits) × SaysNumber digits reason
SaysOutcome bs TimedOut = bs ≡ codes "timed out"

-- the text that a value is written as
abbrev pub instant_text : Instant → List ℕ
instant_text x = signed_decimal x.0

abbrev pub pseudonym_text : Pseudonym → List ℕ
pseudonym_text x = decimal x.high ++ (codes ":" ++ decimal x.low)

-- the bytes before a place, all where there is none
abbrev pub front_to : Option ℕ → List ℕ → List ℕ
front_to None bs = bs
front_to (Some n) bs = take n bs

-- the bytes of a code up to the first that is 0
abbrev pub code_text : CollegeCode → List ℕ
code_text x = front_to (position (λ b. b == 0) (to_be_bytes w64 x.0)) (to_be_bytes w64 x.0)

abbrev pub outcome_text : LoginOutcome → List ℕ
outcome_text Granted = codes "granted"
outcome_text (Refused reason) = codes "refused " ++ decimal reason
outcome_text TimedOut = codes "timed out"
