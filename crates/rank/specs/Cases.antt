-- Worked cases: the keys 4, 4, 6, 6, 6, 9; one row; NULL keys.
use Rattle.std.specs.Prelude.{◌≡◌, ℕ, List, [], ◌∷◌, map, pos, Some, None, Option, nat_eq, Float}
use Rattle.std.specs.Float.{binary64}
use Rattle.std.specs.Float.Ieee.{of_int}
use Rattle.partition.specs.Peers.{peers}
use Rattle.rank.specs.declared.rank.RankType.{RankType}
use Rattle.rank.specs.declared.rank.RankType.TheVariants.{Basic, Dense}
use Rattle.rank.specs.Groups.{graded}
use Rattle.rank.specs.Ranks.{rank_graded}
use Rattle.rank.specs.Fractions.{fraction, percent_rank, cume_dist}

-- 4, 4, 6, 6, 6, 9
abbrev pub keys : List (Option ℕ)
keys = Some 4 ∷ Some 4 ∷ Some 6 ∷ Some 6 ∷ Some 6 ∷ Some 9 ∷ []

-- NULL, NULL, 3, NULL
abbrev pub nulls : List (Option ℕ)
nulls = None ∷ None ∷ Some 3 ∷ None ∷ []

-- the first rows
abbrev pub four : List ℕ
four = 0 ∷ 1 ∷ 2 ∷ 3 ∷ []

-- six of them
abbrev pub six : List ℕ
six = 0 ∷ 1 ∷ 2 ∷ 3 ∷ 4 ∷ 5 ∷ []

-- RANK or DENSE_RANK of these rows
abbrev pub ranks : RankType → List (Option ℕ) → List ℕ → List ℕ
ranks type keys rows = map (graded (rank_graded type) nat_eq keys) rows

-- PERCENT_RANK of these rows
abbrev pub percent_ranks : List (Option ℕ) → List ℕ → List Float
percent_ranks keys rows = map (graded percent_rank nat_eq keys) rows

-- CUME_DIST of these rows
abbrev pub cume_dists : List (Option ℕ) → List ℕ → List Float
cume_dists keys rows = map (graded cume_dist nat_eq keys) rows

-- the cases, so many
pub record Cases (count : ℕ) : Type 0 where
  pub counted : count ≡ 10
  pub groups : peers nat_eq keys ≡ (0, 2) ∷ (2, 5) ∷ (5, 6) ∷ []
  pub rank : ranks Basic keys six ≡ 1 ∷ 1 ∷ 3 ∷ 3 ∷ 3 ∷ 6 ∷ []
  pub dense_rank : ranks Dense keys six ≡ 1 ∷ 1 ∷ 2 ∷ 2 ∷ 2 ∷ 3 ∷ []
  pub percent_rank : percent_ranks keys six ≡ fraction 0 5 ∷ fraction 0 5 ∷ fraction 2 5 ∷ fraction 2 5 ∷ fraction 2 5 ∷ fraction 5 5 ∷ []
  pub cume_dist : cume_dists keys six ≡ fraction 2 6 ∷ fraction 2 6 ∷ fraction 5 6 ∷ fraction 5 6 ∷ fraction 5 6 ∷ fraction 6 6 ∷ []
  -- one row: 0 and 1, as doubles
  pub one_row_percent_rank : percent_ranks (Some 4 ∷ []) (0 ∷ []) ≡ of_int binary64 (pos 0) ∷ []
  pub one_row_cume_dist : cume_dists (Some 4 ∷ []) (0 ∷ []) ≡ of_int binary64 (pos 1) ∷ []
  -- NULL keys next to each other form one group
  pub null_groups : peers nat_eq nulls ≡ (0, 2) ∷ (2, 3) ∷ (3, 4) ∷ []
  pub null_rank : ranks Basic nulls four ≡ 1 ∷ 1 ∷ 3 ∷ 4 ∷ []
  pub null_dense_rank : ranks Dense nulls four ≡ 1 ∷ 1 ∷ 2 ∷ 3 ∷ []
