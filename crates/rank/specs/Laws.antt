-- What the groups and the ranks of rows come to, row by row.
use Rattle.std.specs.Prelude.{◌≡◌, ℕ, ◌+◌, ◌<◌, ◌≤◌, Bool, true, false, List, length, None, Option, slice_index_or}
use Rattle.column.specs.Cells.{same_cell}
use Rattle.partition.specs.Peers.{peers, IsGroup}
use Rattle.rank.specs.declared.rank.RankType.{RankType}
use Rattle.rank.specs.declared.rank.RankType.TheVariants.{Basic, Dense}
use Rattle.rank.specs.Groups.{group_at, graded}
use Rattle.rank.specs.Ranks.{rank_graded}

-- a row lies in its group, one of the longest runs of rows that are the same as the run's first
pub record GroupLaw {V : Type 0} (same : V → V → Bool) (rows : List (Option V)) : Type 0 where
  pub group : (i : ℕ) → i < length rows → IsGroup same rows (group_at (peers same rows) i).0 (group_at (peers same rows) i).1
  pub begins : (i : ℕ) → i < length rows → (group_at (peers same rows) i).0 ≤ i
  pub ends : (i : ℕ) → i < length rows → i < (group_at (peers same rows) i).1

-- the rank of row i
abbrev pub rank_of : {V : Type 0} → (V → V → Bool) → RankType → List (Option V) → ℕ → ℕ
rank_of same type rows i = graded (rank_graded type) same rows i

-- whether row i + 1 is the same as row i
abbrev pub repeats : {V : Type 0} → (V → V → Bool) → List (Option V) → ℕ → Bool
repeats same rows i = same_cell same (slice_index_or rows i None) (slice_index_or rows (i + 1) None)

-- the first row has rank 1; a row that is the same as the one before has its rank; any other has its row number as RANK, and as DENSE_RANK one more than the row before
pub record RankLaw {V : Type 0} (same : V → V → Bool) (rows : List (Option V)) : Type 0 where
  pub first : (type : RankType) → 0 < length rows → rank_of same type rows 0 ≡ 1
  pub stays : (type : RankType) (i : ℕ) → i + 1 < length rows → repeats same rows i ≡ true → rank_of same type rows (i + 1) ≡ rank_of same type rows i
  pub jumps : (i : ℕ) → i + 1 < length rows → repeats same rows i ≡ false → rank_of same Basic rows (i + 1) ≡ i + 2
  pub rises : (i : ℕ) → i + 1 < length rows → repeats same rows i ≡ false → rank_of same Dense rows (i + 1) ≡ rank_of same Dense rows i + 1
