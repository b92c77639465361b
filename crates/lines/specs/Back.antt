-- What is shown is read back.
use Rattle.std.specs.Prelude.{◌≡◌, ◌≢◌, ℕ, ◌<◌, cond, List, ◌++◌, length, drop, Result, Ok, slice_index}
use Rattle.std.specs.Int.{IsInRange}
use Rattle.std.specs.Str.Parse.{IsNumeral, starts_with_minus}
use Rattle.lines.specs.Cursors.{ahead}
use Rattle.lines.specs.declared.cursor.Cursor.{Cursor}

-- what stands behind a value does not go on with a digit
abbrev pub Ends : List ℕ → Type 0
Ends rest = ¬ (IsInRange 48 57 (slice_index rest 0))

-- a text that is not empty, and does not begin as a list ends
abbrev pub Begins : List ℕ → Type 0
Begins bs = (0 < length bs) × (slice_index bs 0 ≢ 93)

-- a text that does not begin as that of NULL does
abbrev pub IsPresent : List ℕ → Type 0
IsPresent bs = slice_index bs 0 ≢ 95

-- behind a field stands nothing, or a blank
abbrev pub EndsField : List ℕ → Type 0
EndsField rest = 0 < length rest → slice_index rest 0 ≡ 32

-- small letters, one or more
abbrev pub IsWord : List ℕ → Type 0
IsWord bs = (0 < length bs) × ((k : ℕ) → k < length bs → IsInRange 97 122 (slice_index bs k))

-- what stands behind a word does not go on with a small letter
abbrev pub EndsWord : List ℕ → Type 0
EndsWord rest = ¬ (IsInRange 97 122 (slice_index rest 0))

-- digits, which a minus sign may precede
abbrev pub IsNumber : List ℕ → Type 0
IsNumber bs = IsNumeral 10 (drop (cond (starts_with_minus bs) 1 0) bs)

-- a type reads this text as n, and as nothing else
abbrev pub IsReadAs : {V E : Type 0} → (List ℕ → Result V E → Type 0) → List ℕ → V → Type 0
IsReadAs gives bs n = (r : _) → gives bs r → r ≡ Ok n

-- a call from a to b that finds this text gives x, and leaves what stands behind
abbrev pub ReadsBack : {V E : Type 0} → List ℕ → V → Cursor → Result V E → Cursor → Type 0
ReadsBack bs x a r b = (rest : List ℕ) → ahead a ≡ bs ++ rest → Ends rest → (r ≡ Ok x) × (ahead b ≡ rest)
