-- The column of a name. Assumes nothing.
use Rattle.std.specs.Prelude.{◌≡◌, ℕ, ◌<◌, List, length, slice_index_or}
use Rattle.std.specs.Borrow.{Bor}
use Rattle.table.specs.declared.names.NoColumn.{NoColumn}
use Rattle.table.specs.declared.names.NoColumn.TheVariants.{Absent, Twice}

-- the name of column k
abbrev pub Named : List (Bor (List ℕ)) → List ℕ → ℕ → Type 0
Named names name k = (k < length names) × ((d : Bor (List ℕ)) → (slice_index_or names k d).now ≡ name)

-- column k and no other has the name
pub record IsColumn (names : List (Bor (List ℕ))) (name : List ℕ) (k : ℕ) : Type 0 where
  pub named : Named names name k
  pub lone : (j : ℕ) → Named names name j → j ≡ k

-- no column has the name, or two have it
abbrev pub NotColumn : List (Bor (List ℕ)) → List ℕ → NoColumn → Type 0
NotColumn names name Absent = (k : ℕ) → Named names name k → ⊥
NotColumn names name Twice = (j k : ℕ) × (j < k) × Named names name j × Named names name k
