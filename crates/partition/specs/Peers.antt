-- Peer groups: the longest runs of rows that are the same as the run's first row.
use Rattle.std.specs.Prelude.{◌≡◌, ℕ, ◌+◌, ◌<◌, ◌≤◌, Bool, true, false, cond, List, [], ◌∷◌, length, None, Option, slice_index_or}
use Rattle.column.specs.Cells.{same_cell}

-- a group's first row, and the row after its last
abbrev pub Group : Type 0
Group = ℕ × ℕ

-- the groups of the cells from row i on, where the group so far began at row s with the cell c
abbrev pub continued : {V : Type 0} → (V → V → Bool) → Option V → ℕ → ℕ → List (Option V) → List Group
continued same c s i [] = (s, i) ∷ []
continued same c s i (d ∷ ds) = cond (same_cell same c d) (continued same c s (i + 1) ds) ((s, i) ∷ continued same d i (i + 1) ds)

-- the groups of the cells from row i on, where a group begins there
abbrev pub peers_from : {V : Type 0} → (V → V → Bool) → ℕ → List (Option V) → List Group
peers_from same i [] = []
peers_from same i (c ∷ cs) = continued same c i (i + 1) cs

-- the groups of all cells
abbrev pub peers : {V : Type 0} → (V → V → Bool) → List (Option V) → List Group
peers same cs = peers_from same 0 cs

-- rows s to e - 1 are one of the longest runs of rows that are the same as row s
pub record IsGroup {V : Type 0} (same : V → V → Bool) (cs : List (Option V)) (s e : ℕ) : Type 0 where
  pub nonempty : s < e
  pub within : e ≤ length cs
  pub alike : (j : ℕ) → s ≤ j → j < e → same_cell same (slice_index_or cs s None) (slice_index_or cs j None) ≡ true
  pub stops : e < length cs → same_cell same (slice_index_or cs s None) (slice_index_or cs e None) ≡ false

-- the groups cover the rows from row i on, in order, without gap or overlap
abbrev pub Tiled : {V : Type 0} → (V → V → Bool) → List (Option V) → ℕ → List Group → Type 0
Tiled same cs i [] = i ≡ length cs
Tiled same cs i (g ∷ gs) = (g.0 ≡ i) × IsGroup same cs g.0 g.1 × Tiled same cs g.1 gs

-- the groups of the cells tile them, and no other groups do
pub record PeerLaw {V : Type 0} (same : V → V → Bool) (cs : List (Option V)) : Type 0 where
  pub tiled : Tiled same cs 0 (peers same cs)
  pub only : (gs : List Group) → Tiled same cs 0 gs → gs ≡ peers same cs
