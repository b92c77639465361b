-- Which rows have a present cell; cells are a function of the row, NULL past the end.
use Rattle.std.specs.Prelude.{ℕ, zero, suc, ◌+◌, ◌-◌, cond, List, [], ◌∷◌, length, is_some, None, Option, slice_index_or}

-- the cell of a row
abbrev pub at : {V : Type 0} → List (Option V) → ℕ → Option V
at rows k = slice_index_or rows k None

-- the present rows before row i, nearest first
abbrev pub before : {V : Type 0} → (ℕ → Option V) → ℕ → List ℕ
before cell zero = []
before cell (suc i) = cond (is_some (cell i)) (i ∷ before cell i) (before cell i)

-- the present rows among the n rows from row k on, nearest first
abbrev pub ahead : {V : Type 0} → (ℕ → Option V) → ℕ → ℕ → List ℕ
ahead cell k zero = []
ahead cell k (suc n) = cond (is_some (cell k)) (k ∷ ahead cell (k + 1) n) (ahead cell (k + 1) n)

-- the present rows after row i, nearest first
abbrev pub after : {V : Type 0} → List (Option V) → ℕ → List ℕ
after rows i = ahead (at rows) (i + 1) (length rows - (i + 1))
