-- The group of a row, and what its rows are answered.
use Rattle.std.specs.Prelude.{◌≡◌, ℕ, suc, ◌<◌, ◌≤◌, Bool, cond, List, [], ◌∷◌, length, Option, nat_lt, slice_index_or}
use Rattle.column.specs.Refusal.{row_limit}
use Rattle.partition.specs.Peers.{Group, peers}

-- the place in the list of the group that row i lies in: the first that ends past it
abbrev pub group_number : List Group → ℕ → ℕ
group_number [] i = 0
group_number (g ∷ gs) i = cond (nat_lt i g.1) 0 (suc (group_number gs i))

-- the group that row i lies in
abbrev pub group_at : List Group → ℕ → Group
group_at gs i = slice_index_or gs (group_number gs i) (0, 0)

-- the answer of row i of n rows: what its group is graded, by its number from 0, its rows, and n
abbrev pub graded_by : {A : Type 0} → (ℕ → Group → ℕ → A) → List Group → ℕ → ℕ → A
graded_by grade gs n i = grade (group_number gs i) (group_at gs i) n

-- the same, by the peer groups of the rows
abbrev pub graded : {V A : Type 0} → (ℕ → Group → ℕ → A) → (V → V → Bool) → List (Option V) → ℕ → A
graded grade same rows i = graded_by grade (peers same rows) (length rows) i

-- the groups cover the rows from row i up to row n, in order, none of them empty
abbrev pub Covers : ℕ → List Group → ℕ → Type 0
Covers i [] n = i ≡ n
Covers i (g ∷ gs) n = (g.0 ≡ i) × (g.0 < g.1) × Covers g.1 gs n

-- a group of n rows, the k-th from 0
pub record Within (k : ℕ) (g : Group) (n : ℕ) : Type 0 where
  pub number : k ≤ g.0
  pub nonempty : g.0 < g.1
  pub inside : g.1 ≤ n
  pub limited : n ≤ row_limit
