-- An accepted call on a whole partition, by its groups.
use Rattle.std.specs.Prelude.{◌≡◌, ℕ, Bool, true, false, length, refl}
use Rattle.column.specs.Cells.{cells}
use Rattle.column.specs.Slots.{written}
use Rattle.column.proofs.Cells.{length-cells}
use Rattle.partition.specs.Peers.{Group, peers, PeerLaw}
use Rattle.partition.specs.Table.{Input, row_count, Accepted}
use Rattle.rank.specs.Groups.{Covers, graded_by, graded}
use Rattle.rank.proofs.Covers.{tiled_covers}

module _ {V : Type 0} (same : V → V → Bool) (x : Input V) (slots : ℕ) (a : Accepted same false true x slots) where
  long : length (cells x.values x.marks) ≡ row_count x
  long = length-cells x.values x.marks a.lengths

  pub covered : PeerLaw same (cells x.values x.marks) → Covers 0 x.groups (row_count x)
  covered p = rw (a.grouped refl, ← long) (tiled_covers same (cells x.values x.marks) (peers same (cells x.values x.marks)) 0 p.tiled)

  -- the answers by the groups handed over are those of the meaning
  pub answered : {A S : Type 0} (stored : S → ℕ → A → S) (grade : ℕ → Group → ℕ → A) (s : S) → written stored (graded_by grade x.groups (row_count x)) s (row_count x) ≡ written stored (graded grade same (cells x.values x.marks)) s (row_count x)
  answered stored grade s = rw (a.grouped refl, ← long)
