-- What a call on a whole partition must not touch.
use Rattle.std.specs.Prelude.{◌≡◌, ℕ, ◌<◌, ◌≤◌, Bool, false, ◌&&◌, ◌||◌, T, List, nat_lt, slice_index_or}

-- a call with so many answers may write the value of row i: the row is answered, and not by NULL
abbrev pub writable : List Bool → ℕ → ℕ → Bool
writable marks answers i = nat_lt i answers && slice_index_or marks i false

-- every value below n that it may not write is the same as the pattern
abbrev pub ValuesKept : {V : Type 0} → (V → V → Bool) → V → List V → List Bool → ℕ → ℕ → Type 0
ValuesKept same pattern values marks answers n = (k : ℕ) → k < n → T (writable marks answers k || same (slice_index_or values k pattern) pattern)

-- every mark below n past the answers is true
abbrev pub MarksKept : List Bool → ℕ → ℕ → Type 0
MarksKept marks answers n = (k : ℕ) → k < n → answers ≤ k → T (slice_index_or marks k false)

-- every entry from place n on is the pattern
abbrev pub HoldsFrom : {A : Type 0} → A → List A → ℕ → Type 0
HoldsFrom pattern list n = (k : ℕ) → n ≤ k → slice_index_or list k pattern ≡ pattern
