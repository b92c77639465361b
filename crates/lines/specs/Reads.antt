-- The texts that are read as values.
use Rattle.std.specs.Prelude.{◌≡◌, ◌⊎◌, ℕ, ℤ, Bool, List, [], ◌∷◌, ◌++◌, Some, None, codes, Option}
use Rattle.std.specs.Str.Parse.{IsNumeral, digits_value, signed_digits_value, without_leading_plus, without_leading_sign}
use Rattle.column.specs.declared.kind.Instant.{Instant}
use Rattle.column.specs.declared.kind.Pseudonym.{Pseudonym}
use Rattle.column.specs.declared.kind.CollegeCode.{CollegeCode}
use Rattle.column.specs.declared.kind.LoginOutcome.{LoginOutcome}
use Rattle.column.specs.declared.kind.LoginOutcome.TheVariants.{Granted, Refused, TimedOut}
use Rattle.column.specs.declared.kind.Pair.{Pair}
use Rattle.lines.specs.Texts.{mark_text}

-- decimal digits, which a plus sign may precede, and the number that they make
abbrev pub ReadsUnsigned : List ℕ → ℕ → Type 0
ReadsUnsigned bs n = IsNumeral 10 (without_leading_plus bs) × (n ≡ digits_value 10 (without_leading_plus bs))

-- the same, where the sign may be a minus
abbrev pub ReadsSigned : List ℕ → ℤ → Type 0
ReadsSigned bs n = IsNumeral 10 (without_leading_sign bs) × (n ≡ signed_digits_value 10 bs)

-- a signed number
abbrev pub ReadsInstant : List ℕ → Instant → Type 0
ReadsInstant bs x = ReadsSigned bs x.0

-- the high part, a colon and the low part
abbrev pub ReadsPseudonym : List ℕ → Pseudonym → Type 0
ReadsPseudonym bs x = (high : List ℕ) × (low : List ℕ) × (bs ≡ high ++ (codes ":" ++ low)) × ReadsUnsigned high x.high × ReadsUnsigned low x.low

-- an unsigned number
abbrev pub ReadsCode : List ℕ → CollegeCode → Type 0
ReadsCode bs x = ReadsUnsigned bs x.0

-- a letter, and behind `r` the reason
abbrev pub ReadsOutcome : List ℕ → LoginOutcome → Type 0
ReadsOutcome bs Granted = bs ≡ codes "g"
ReadsOutcome bs (Refused reason) = (digits : List ℕ) × (bs ≡ codes "r" ++ digits) × ReadsUnsigned digits reason
ReadsOutcome bs TimedOut = bs ≡ codes "t"

-- `<`, a text of the first value, `;`, one of the second and `>`
abbrev pub ReadsPair : {A B : Type 0} → (List ℕ → A → Type 0) → (List ℕ → B → Type 0) → List ℕ → Pair A B → Type 0
ReadsPair ReadsFirst ReadsSecond bs x = (first : List ℕ) × (second : List ℕ) × (bs ≡ codes "<" ++ (first ++ (codes ";" ++ (second ++ codes ">")))) × ReadsFirst first x.first × ReadsSecond second x.second

-- `_` for NULL, else a value
abbrev pub ReadsCell : {V : Type 0} → (List ℕ → V → Type 0) → List ℕ → Option V → Type 0
ReadsCell ReadsValue bs None = bs ≡ codes "_"
ReadsCell ReadsValue bs (Some v) = ReadsValue bs v

-- the text that the mark is shown as
abbrev pub ReadsMark : List ℕ → Bool → Type 0
ReadsMark bs mark = bs ≡ mark_text mark

-- the start, a minus sign and the end
abbrev pub ReadsSpan : List ℕ → ℕ × ℕ → Type 0
ReadsSpan bs x = (start : List ℕ) × (end : List ℕ) × (bs ≡ start ++ (codes "-" ++ end)) × ReadsUnsigned start x.0 × ReadsUnsigned end x.1

-- one item, or an item, a comma and the others
abbrev pub ReadsItems : {V : Type 0} → (List ℕ → V → Type 0) → List ℕ → List V → Type 0
ReadsItems Reads bs [] = bs ≡ []
ReadsItems Reads bs (x ∷ []) = Reads bs x
ReadsItems Reads bs (x ∷ (y ∷ ys)) = (first : List ℕ) × (others : List ℕ) × (bs ≡ first ++ (codes "," ++ others)) × Reads first x × ReadsItems Reads others (y ∷ ys)

-- the items in brackets
abbrev pub ReadsList : {V : Type 0} → (List ℕ → V → Type 0) → List ℕ → List V → Type 0
ReadsList Reads bs xs = (items : List ℕ) × (bs ≡ codes "[" ++ (items ++ codes "]")) × ReadsItems Reads items xs

-- a column's lists, with a byte between them
abbrev pub ReadsColumn : {V : Type 0} → (List ℕ → V → Type 0) → ℕ → List ℕ → List V → List Bool → Type 0
ReadsColumn Reads between bs values marks = (first : List ℕ) × (second : List ℕ) × (bs ≡ codes "V" ++ (first ++ (between ∷ (codes "M" ++ second)))) × ReadsList Reads first values × ReadsList ReadsMark second marks

-- behind a letter a list of frames or groups, or `-` where there are none at all
abbrev pub ReadsSpans : ℕ → List ℕ → List (ℕ × ℕ) → Type 0
ReadsSpans letter bs spans = (text : List ℕ) × (bs ≡ letter ∷ text) × (ReadsList ReadsSpan text spans ⊎ ((text ≡ codes "-") × (spans ≡ [])))
