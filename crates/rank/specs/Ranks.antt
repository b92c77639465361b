-- RANK and DENSE_RANK.
use Rattle.std.specs.Prelude.{◌≡◌, ℕ, zero, suc, ◌+◌, ◌-◌, ◌^◌, min, max, Bool, true, cond, not, List, length, Some, None, Option, nat_lt, slice_index_or}
use Rattle.column.specs.declared.column.Window.{Window}
use Rattle.column.specs.Cells.{same_cell, view}
use Rattle.partition.specs.Peers.{Group, peers}
use Rattle.partition.specs.Table.{Frame}
use Rattle.evaluator.specs.Meaning.{Meaning}
use Rattle.rank.specs.declared.rank.RankType.{RankType}
use Rattle.rank.specs.declared.rank.RankType.TheVariants.{Basic, Dense}
use Rattle.rank.specs.declared.rank.Rank.{Rank}
use Rattle.rank.specs.declared.state.RankState.{RankState}
use Rattle.rank.specs.Groups.{group_number, group_at, graded}

-- RANK is one more than the rows before the group, DENSE_RANK the group's number from 1
abbrev pub rank_graded : RankType → ℕ → Group → ℕ → ℕ
rank_graded Basic k g n = g.0 + 1
rank_graded Dense k g n = k + 1

-- nothing held yet
abbrev pub start : {V : Type 0} → RankState V
start = record { last_rank_data = None; last_rank_boundary = 0; n_rank = 0; next = 0 }

-- what is held at row i: of the group of the row before, its first cell, its first row and its number from 1
abbrev pub state_at : {V : Type 0} → (V → V → Bool) → List (Option V) → ℕ → RankState V
state_at same rows zero = start
state_at same rows (suc i) = record {
  last_rank_data = Some (slice_index_or rows (group_at (peers same rows) i).0 None);
  last_rank_boundary = (group_at (peers same rows) i).0;
  n_rank = group_number (peers same rows) i + 1;
  next = suc i;
}

-- the meaning of RANK or DENSE_RANK
abbrev pub rank_meaning : {V : Type 0} → (V → V → Bool) → Rank V → Meaning V ℕ
rank_meaning same e = record {
  answer = λ p i. graded (rank_graded e.rank_type) same p.rows i;
  stands = λ p i. e.state ≡ state_at same p.rows i;
  settled = λ rows frames known i. nat_lt i (length rows);
  keep = e.state.next;
}

-- a new one
abbrev pub new_rank : {V : Type 0} → RankType → Rank V
new_rank type = record { rank_type = type; state = start }

-- the same function, holding nothing
abbrev pub rank_renewed : {V : Type 0} → Rank V → Rank V
rank_renewed e = new_rank e.rank_type

-- one more, within 64 bits
abbrev pub one_more : ℕ → ℕ
one_more n = min (n + 1) (2 ^ 64 - 1)

-- whether a cell opens a group: it is the first, or not the same as the first of the group held
abbrev pub opens : {V : Type 0} → (V → V → Bool) → Option (Option V) → Option V → Bool
opens same None cell = true
opens same (Some first) cell = not (same_cell same first cell)

-- what is held after row i with this cell
abbrev pub state_after : {V : Type 0} → (V → V → Bool) → RankState V → Option V → ℕ → RankState V
state_after same s cell i = cond (opens same s.last_rank_data cell)
    (record { last_rank_data = Some cell; last_rank_boundary = i; n_rank = one_more s.n_rank; next = max s.next (i + 1) })
    (record { last_rank_data = s.last_rank_data; last_rank_boundary = s.last_rank_boundary; n_rank = s.n_rank; next = max s.next (i + 1) })

-- the answer by what is held after the row
abbrev pub rank_held : {V : Type 0} → RankType → RankState V → ℕ
rank_held Basic s = one_more s.last_rank_boundary
rank_held Dense s = s.n_rank

-- what an accepted row call leaves
abbrev pub rank_stepped : {V : Type 0} → (V → V → Bool) → Rank V → ℕ → Window V → Frame → Rank V
rank_stepped same e i w f = record { rank_type = e.rank_type; state = state_after same e.state (view w i) i }

-- settling leaves it as it was
abbrev pub rank_settling : {V : Type 0} → Rank V → ℕ → Frame → Rank V
rank_settling e i f = e
