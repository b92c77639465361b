-- The law of ranks.
use Rattle.std.proofs.Common.{◌≡◌, ℕ, suc, ◌+◌, ◌<◌, Bool, true, false, T, List, length, get_or, None, Option, refl, add-one, arith}
use Rattle.column.specs.Cells.{same_cell}
use Rattle.partition.specs.Peers.{Group, peers}
use Rattle.rank.specs.declared.rank.RankType.{RankType}
use Rattle.rank.specs.declared.rank.RankType.TheVariants.{Basic, Dense}
use Rattle.rank.specs.Groups.{group_at}
use Rattle.rank.specs.Laws.{RankLaw, rank_of}
use Rattle.rank.proofs.Steps.{group_law, first_number, first_row, same_number, next_number, goes_on, goes_off}

module _ {V : Type 0} (same : V → V → Bool) (self : (x : V) → T (same x x)) (symmetric : (x y : V) → T (same x y) → T (same y x)) (transitive : (x y z : V) → T (same x y) → T (same y z) → T (same x z)) where
  -- cells that are the same are the same as the same cells
  like : (c d e : Option V) → same_cell same c d ≡ true → same_cell same d e ≡ same_cell same c e
  like c d e h = grind (arith, symmetric, transitive)

  module _ (rows : List (Option V)) where
    module _ (j : ℕ) (h : suc j < length rows) where
      abbrev g : Group
      g = group_at (peers same rows) j

      -- the row before stands for the group's first
      by_first : same_cell same (get_or rows j None) (get_or rows (suc j) None) ≡ same_cell same (get_or rows g.0 None) (get_or rows (suc j) None)
      by_first = let w = group_law same self rows in like _ _ _ ((w.group j (omega arith)).alike j (w.begins j (omega arith)) (w.ends j (omega arith)))

      on : same_cell same (get_or rows j None) (get_or rows (suc j) None) ≡ true → suc j < g.1
      on e =
          let w = (group_law same self rows).ends j (omega arith) in
          let f = goes_off same self rows j h in
          let b = by_first in
          grind arith

      off : same_cell same (get_or rows j None) (get_or rows (suc j) None) ≡ false → g.1 ≡ suc j
      off e =
          let w = (group_law same self rows).ends j (omega arith) in
          let f = goes_on same self rows j h in
          let b = by_first in
          grind arith

      stay : (type : RankType) → same_cell same (get_or rows j None) (get_or rows (suc j) None) ≡ true → rank_of same type rows (suc j) ≡ rank_of same type rows j
      stay Basic e = rw (same_number same self rows j h (on e)) refl
      stay Dense e = rw (same_number same self rows j h (on e)) refl

      jump : same_cell same (get_or rows j None) (get_or rows (suc j) None) ≡ false → rank_of same Basic rows (suc j) ≡ j + 2
      jump e =
          let n = next_number same self rows j h (off e) in
          rw n.0 (omega (arith, n.1))

      rise : same_cell same (get_or rows j None) (get_or rows (suc j) None) ≡ false → rank_of same Dense rows (suc j) ≡ rank_of same Dense rows j + 1
      rise e = omega (arith, (next_number same self rows j h (off e)).0)

    begin : (type : RankType) → 0 < length rows → rank_of same type rows 0 ≡ 1
    begin Basic h = omega (arith, first_row same self rows h)
    begin Dense h = omega (arith, first_number same self rows h)

    pub rank_law : RankLaw same rows
    rank_law = record {
      first = begin;
      stays = λ type i h e. rw (add-one i) (stay i (omega arith) type (rw add-one at e));
      jumps = λ i h e. rw (add-one i) (jump i (omega arith) (rw add-one at e));
      rises = λ i h e. rw (add-one i) (rise i (omega arith) (rw add-one at e));
    }
