-- What runs take that answer partitions row by row. Assumes nothing.
use Rattle.std.specs.Prelude.{◌≡◌, ℕ, ◌+◌, ◌-◌, ◌^◌, min, max, Bool, fold, List, [], ◌∷◌}
use Rattle.evaluator.specs.Meaning.{Meaning, Partition}
use Rattle.moving.specs.Moving.{ShownAll, from_zero}
use Rattle.partition.specs.Table.{Frame}
use Rattle.turns.specs.declared.layout.Turn.{Turn}
use Rattle.desk.specs.declared.by_rows.Told.{Told}

-- the most rows held at once: so many, or those of a window that was shown
abbrev pub most : ℕ → List Frame → ℕ
most n shown = fold (λ k w. max k (w.1 - w.0)) n shown

-- what runs took, with one more that was shown these windows
abbrev pub with_run : Told → List Frame → ℕ → Told
with_run told shown early = record { held = most told.held shown; early = min (told.early + early) (2 ^ 64 - 1) }

-- what runs took before and after one that answered a partition, where z says that all frames begin at row 0
pub record Took {V A S : Type 0} (meaning : S → Meaning V A) (e : S) (p : Partition V) (z : Bool) (step : ℕ) (before after : Told) : Type 0 where
  pub shown : List Frame
  pub early : ℕ
  pub how : ShownAll meaning e p z step shown early
  pub is : after ≡ with_run before shown early

-- nothing was held yet
abbrev pub none_told : Told
none_told = record { held = 0; early = 0 }

-- the same of the partition that p makes of rows in turn
abbrev pub TookPart : {V A S : Type 0} → (S → Meaning V A) → S → (List Turn → Partition V) → ℕ → Told → List Turn → Told → Type 0
TookPart meaning e p step before turns after = Took meaning e (p turns) (from_zero (p turns).frames) step before after

-- the same of one run for each partition, in order
abbrev pub TookAll : {V A S : Type 0} → (S → Meaning V A) → S → (List Turn → Partition V) → ℕ → Told → List (List Turn) → Told → Type 0
TookAll meaning e p step before [] after = after ≡ before
TookAll meaning e p step before (turns ∷ more) after = (mid : Told) × TookPart meaning e p step before turns mid × TookAll meaning e p step mid more after
