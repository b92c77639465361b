-- The texts of values.
use Rattle.std.specs.Prelude.{ℕ, ◌-◌, ◌^◌, Bool, true, false, List, [], ◌∷◌, ◌++◌, Some, None, codes, decimal, Float, Option}
use Rattle.std.specs.Float.{binary64}
use Rattle.std.specs.Float.Ieee.{to_bits}
use Rattle.std.specs.Fmt.{signed_decimal, digits, format_spec, padded_integral}
use Rattle.std.specs.List.{flat_map}
use Rattle.column.specs.declared.kind.Instant.{Instant}
use Rattle.column.specs.declared.kind.Pseudonym.{Pseudonym}
use Rattle.column.specs.declared.kind.CollegeCode.{CollegeCode}
use Rattle.column.specs.declared.kind.LoginOutcome.{LoginOutcome}
use Rattle.column.specs.declared.kind.LoginOutcome.TheVariants.{Granted, Refused, TimedOut}
use Rattle.column.specs.declared.kind.Pair.{Pair}

abbrev pub instant_text : Instant → List ℕ
instant_text x = signed_decimal x.0

abbrev pub pseudonym_text : Pseudonym → List ℕ
pseudonym_text x = decimal x.high ++ (codes ":" ++ decimal x.low)

abbrev pub code_text : CollegeCode → List ℕ
code_text x = decimal x.0

abbrev pub outcome_text : LoginOutcome → List ℕ
outcome_text Granted = codes "g"
outcome_text (Refused reason) = codes "r" ++ decimal reason
outcome_text TimedOut = codes "t"

abbrev pub pair_text : {A B : Type 0} → (A → List ℕ) → (B → List ℕ) → Pair A B → List ℕ
pair_text first_text second_text x = codes "<" ++ (first_text x.first ++ (codes ";" ++ (second_text x.second ++ codes ">")))

abbrev pub cell_text : {V : Type 0} → (V → List ℕ) → Option V → List ℕ
cell_text value_text None = codes "_"
cell_text value_text (Some v) = value_text v

abbrev pub mark_text : Bool → List ℕ
mark_text true = codes "1"
mark_text false = codes "0"

abbrev pub span_text : ℕ × ℕ → List ℕ
span_text x = decimal x.0 ++ (codes "-" ++ decimal x.1)

-- each with a comma before it
abbrev pub rest_text : {V : Type 0} → (V → List ℕ) → List V → List ℕ
rest_text one xs = flat_map (λ x. codes "," ++ one x) xs

-- with commas between them
abbrev pub joined : {V : Type 0} → (V → List ℕ) → List V → List ℕ
joined one [] = []
joined one (x ∷ xs) = one x ++ rest_text one xs

abbrev pub list_text : {V : Type 0} → (V → List ℕ) → List V → List ℕ
list_text one xs = codes "[" ++ (joined one xs ++ codes "]")

-- a column's lists, with a byte between them
abbrev pub column_text : {V : Type 0} → (V → List ℕ) → ℕ → List V → List Bool → List ℕ
column_text one between values marks = codes "V" ++ (list_text one values ++ (between ∷ (codes "M" ++ list_text mark_text marks)))

-- the bits of a double, in 16 hexadecimal digits
abbrev pub fraction_text : Float → List ℕ
fraction_text x = padded_integral (format_spec 32 0 4 16 (2 ^ 64 - 1)) false [] (digits 16 false (to_bits binary64 x))
