-- PERCENT_RANK and CUME_DIST: fractions of all rows.
use Rattle.std.specs.Prelude.{ℕ, ◌-◌, max, Bool, ◌&&◌, length, pos, nat_lt, Float}
use Rattle.std.specs.Float.{binary64}
use Rattle.std.specs.Float.Ieee.{div, of_int}
use Rattle.evaluator.specs.Meaning.{Meaning}
use Rattle.partition.specs.Peers.{Group}
use Rattle.rank.specs.Groups.{graded}
use Rattle.rank.specs.declared.fractions.FractionEvaluator.{FractionEvaluator}

-- one division of two whole numbers, as doubles
abbrev pub fraction : ℕ → ℕ → Float
fraction a d = div binary64 (of_int binary64 (pos a)) (of_int binary64 (pos d))

-- PERCENT_RANK: the rows before the group, divided by the rows but one
abbrev pub percent_rank : ℕ → Group → ℕ → Float
percent_rank k g n = fraction g.0 (max (n - 1) 1)

-- CUME_DIST: the rows up to the group's end, divided by the rows
abbrev pub cume_dist : ℕ → Group → ℕ → Float
cume_dist k g n = fraction g.1 n

-- the meaning of a fraction of all rows: no row is settled before the total is known, and nothing is held
abbrev pub fraction_meaning : {V : Type 0} → (ℕ → Group → ℕ → Float) → (V → V → Bool) → Meaning V Float
fraction_meaning grade same = record {
  answer = λ p i. graded grade same p.rows i;
  stands = λ p i. Unit {0};
  settled = λ rows frames known i. known && nat_lt i (length rows);
  keep = 0;
}

-- a new evaluator of any of them
abbrev pub new_evaluator : {F V : Type 0} → FractionEvaluator F V
new_evaluator = record { kind = record {} }
