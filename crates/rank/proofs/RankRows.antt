-- The row call of RANK and DENSE_RANK.
use Rattle.std.specs.Prelude.{◌≡◌, ℕ, zero, suc, ◌+◌, ◌<◌, ◌≤◌, Bool, false, T, List, length, None, Ok, Option, slice_index_or, refl}
use Rattle.std.proofs.Common.{◌∙◌, ap, arith, add-one, rules}
use Rattle.std.proofs.lemmas.Bool.Decides.{nat_tests}
use Rattle.column.specs.declared.column.Window.{Window}
use Rattle.column.specs.Cells.{view}
use Rattle.column.specs.Refusal.{row_limit}
use Rattle.partition.specs.Table.{Frame}
use Rattle.run.specs.Shown.{end_of}
use Rattle.run.specs.Rows.{Handed, RowCall}
use Rattle.run.proofs.Seen.{seen_rows, seen_within, seen_view}
use Rattle.rank.specs.declared.rank.RankType.{RankType}
use Rattle.rank.specs.declared.rank.RankType.TheVariants.{Basic, Dense}
use Rattle.rank.specs.declared.rank.Rank.{Rank}
use Rattle.rank.specs.declared.state.RankState.{RankState}
use Rattle.rank.specs.Groups.{graded}
use Rattle.rank.specs.Ranks.{rank_graded, rank_meaning, state_at, state_after, rank_held}
use Rattle.rank.proofs.Steps.{state_on, group_law}

module _ {V : Type 0} (same : V → V → Bool) where
  next_at : (rows : List (Option V)) (i : ℕ) → (state_at same rows i).next ≡ i
  next_at rows zero = refl
  next_at rows (suc i) = refl

  mark_rises : (s : RankState V) (cell : Option V) (i : ℕ) → s.next ≤ (state_after same s cell i).next
  mark_rises s cell i = grind (arith, nat_tests)

  module _ (self : (x : V) → T (same x x)) where
    -- the answer by what is held after the row
    held_answer : (type : RankType) (rows : List (Option V)) (i : ℕ) → i < length rows → i < row_limit → rank_held type (state_at same rows (suc i)) ≡ graded (rank_graded type) same rows i
    held_answer Basic rows i h m = omega (arith, (group_law same self rows).begins i h)
    held_answer Dense rows i h m = refl

    pub ranks : (e : Rank V) (i : ℕ) (w : Window V) (frame : Frame) (known : Bool) → Handed false e.state.next w frame known → i < end_of w → (s : RankState V) → s ≡ state_after same e.state (view w i) i → (x : ℕ) → x ≡ rank_held e.rank_type s → RowCall (rank_meaning same) false i w frame known e (record { rank_type = e.rank_type; state = s }) (Ok x)
    ranks e i w frame known h l s es x ex =
        record {
          alike = search rules;
          mark = rw es (mark_rises e.state (view w i) i);
          outcome = l;
          given = λ p q.
              let n : e.state.next ≡ i = ap (λ (t : RankState V). t.next) q.stands ∙ next_at p.rows i in
              let in_rows : i < length p.rows = omega (arith, seen_within (rank_meaning same e) false e.state.next i w frame known h p q) in
              let low : i < row_limit = omega (arith, h.limited) in
              let cell : view w i ≡ slice_index_or p.rows i None = seen_view (rank_meaning same e) false e.state.next i w frame known h p q i (omega (arith, h.kept)) l in
              let on : s ≡ state_at same p.rows (i + 1) = rw (es, q.stands, cell) (state_on same self p.rows i in_rows low) in
              let a : x ≡ graded (rank_graded e.rank_type) same p.rows i = rw (ex, on, add-one) (held_answer e.rank_type p.rows i in_rows low) in
              let r = seen_rows (rank_meaning same e) false e.state.next i w frame known h p q in
              search (rules, nat_tests);
        }
