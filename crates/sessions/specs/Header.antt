-- The columns of a file that are read. Assumes nothing.
use Rattle.std.specs.Prelude.{◌≡◌, ℕ, ◌<◌, List, length, codes, ◌≢◌, slice_index_or}
use Rattle.std.specs.Borrow.{Bor}
use Rattle.sessions.specs.declared.columns.Columns.{Columns}

-- no other of the first n columns but k may have the name
abbrev pub Lone : List (Bor (List ℕ)) → List ℕ → ℕ → ℕ → Type 0
Lone names name n k = (j : ℕ) (d : Bor (List ℕ)) → j < n → (slice_index_or names j d).now ≡ name → j ≡ k

-- column k is the one of the name among the first n
pub record Column (names : List (Bor (List ℕ))) (name : List ℕ) (n k : ℕ) : Type 0 where
  pub within : k < n
  pub named : (d : Bor (List ℕ)) → (slice_index_or names k d).now ≡ name
  pub lone : Lone names name n k

-- none of the first n columns has the name
abbrev pub Absent : List (Bor (List ℕ)) → List ℕ → ℕ → Type 0
Absent names name n = (j : ℕ) (d : Bor (List ℕ)) → j < n → (slice_index_or names j d).now ≢ name

-- column k is the first of the name
pub record First (names : List (Bor (List ℕ))) (name : List ℕ) (k : ℕ) : Type 0 where
  pub within : k < length names
  pub named : (d : Bor (List ℕ)) → (slice_index_or names k d).now ≡ name
  pub before : Absent names name k

-- the columns of a header, each the one of its name
pub record Header (names : List (Bor (List ℕ))) (c : Columns) : Type 0 where
  pub session : Column names (codes "session") (length names) c.session
  pub instant : Column names (codes "instant") (length names) c.instant
  pub expiry : Column names (codes "renewed_expiry") (length names) c.expiry
  pub count : c.count ≡ length names
