-- RANK and DENSE_RANK: their laws.
use Rattle.std.specs.Prelude.{◌≡◌, ℕ, ◌+◌, Bool, List, Option}
use Rattle.std.proofs.Common.{ap, arith}
use Rattle.std.proofs.lemmas.List.{length-append}
use Rattle.std.proofs.lemmas.Bool.Decides.{nat_tests}
use Rattle.partition.specs.Peers.{peers}
use Rattle.evaluator.specs.Meaning.{Laws}
use Rattle.rank.specs.declared.rank.RankType.{RankType}
use Rattle.rank.specs.declared.rank.RankType.TheVariants.{Basic, Dense}
use Rattle.rank.specs.declared.rank.Rank.{Rank}
use Rattle.rank.specs.Groups.{graded}
use Rattle.rank.specs.Ranks.{rank_graded, rank_meaning}
use Rattle.rank.specs.Fronts.{AlikeAt, peers_front}

module _ {V : Type 0} (same : V → V → Bool) where
  -- the answer by the group's number and first row
  same_rank : (type : RankType) (l m : List (Option V)) (i : ℕ) → AlikeAt (peers same l) (peers same m) i → graded (rank_graded type) same l i ≡ graded (rank_graded type) same m i
  same_rank Basic l m i a = ap (λ (n : ℕ). n + 1) a.first
  same_rank Dense l m i a = ap (λ (n : ℕ). n + 1) a.number

  pub rank_lawful : (e : Rank V) → Laws (rank_meaning same e)
  rank_lawful e = record {
    below = λ rows frames known i h. grind (arith, nat_tests);
    at_total = λ rows frames i h. grind (arith, nat_tests);
    grows = λ rows more frames i h. grind (arith, nat_tests, length-append);
    local = λ p q a known i er ef len h. same_rank e.rank_type p.rows q.rows i (peers_front same p.rows q.rows a i er (grind (arith, nat_tests)));
  }
