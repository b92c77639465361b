-- What an evaluator means, and what a call on a whole partition does.
use Rattle.std.specs.Prelude.{◌≡◌, ℕ, ◌+◌, ◌<◌, Bool, true, false, cond, T, List, [], ◌++◌, length, take, Option, Result}
use Rattle.column.specs.declared.fault.Fault.{Fault}
use Rattle.column.specs.Cells.{cells}
use Rattle.column.specs.Refusal.{passes, kept_or}
use Rattle.partition.specs.Table.{Frame, Input}
use Rattle.column.specs.Slots.{written}

-- rows, each a cell that is NULL (`None`) or present, and the frame of each row; without frames the empty list
pub record Partition (V : Type 0) : Type 0 where
  pub rows : List (Option V)
  pub frames : List Frame

-- the partition that a call is handed; frames that are not wanted are no part of it
abbrev pub partition : {V : Type 0} → Bool → Input V → Partition V
partition wants x = record { rows = cells x.values x.marks; frames = cond wants x.frames [] }

-- the meaning of an evaluator with what it holds
pub record Meaning (V A : Type 0) : Type 1 where
  -- the answer of row i of a partition
  pub answer : Partition V → ℕ → A
  -- whether it stands at row i of a partition, holding what the rows before i leave
  pub stands : Partition V → ℕ → Type 0
  -- whether the first a rows and the frames up to row i, with or without the word that a is the total, settle row i
  pub settled : List (Option V) → List Frame → Bool → ℕ → Bool
  -- the keep mark, the lowest row that it may still read
  pub keep : ℕ

-- no call changes what the answer is and what settles a row
pub record Alike {V A : Type 0} (m n : Meaning V A) : Type 0 where
  pub answer : (p : Partition V) (i : ℕ) → n.answer p i ≡ m.answer p i
  pub settled : (rows : List (Option V)) (frames : List Frame) (known : Bool) (i : ℕ) → n.settled rows frames known i ≡ m.settled rows frames known i

-- whether the first a rows of a partition and its frames up to row i settle row i
abbrev pub settles : {V A : Type 0} → Meaning V A → Partition V → ℕ → Bool → ℕ → Bool
settles m p a known i = m.settled (take a p.rows) (take (i + 1) p.frames) known i

-- what every meaning owes
pub record Laws {V A : Type 0} (m : Meaning V A) : Type 0 where
  -- only rows below a are settled
  pub below : (rows : List (Option V)) (frames : List Frame) (known : Bool) (i : ℕ) → T (m.settled rows frames known i) → i < length rows
  -- row i below a is settled when a is known as the total
  pub at_total : (rows : List (Option V)) (frames : List Frame) (i : ℕ) → i < length rows → T (m.settled rows frames true i)
  -- a row settled without that word stays settled as a grows
  pub grows : (rows more : List (Option V)) (frames : List Frame) (i : ℕ) → T (m.settled rows frames false i) → T (m.settled (rows ++ more) frames false i)
  -- partitions that share their first a rows, the frames up to row i and a total if known give a settled row i one answer
  pub local : (p q : Partition V) (a : ℕ) (known : Bool) (i : ℕ) → take a p.rows ≡ take a q.rows → take (i + 1) p.frames ≡ take (i + 1) q.frames → (T known → (length p.rows ≡ a) × (length q.rows ≡ a)) → T (settles m p a known i) → m.answer p i ≡ m.answer q i

-- a call on a whole partition of n rows: its result, and the slots before and after it
pub record WholeCall {A S : Type 0} (stored : S → ℕ → A → S) (refusal : Option Fault) (answers : ℕ → A) (n : ℕ) (before after : S) (r : Result (Unit {0}) Fault) : Type 0 where
  -- the first check that fails refuses it
  pub outcome : r ≡ passes refusal
  -- the answers in their places, and after a refusal what was there
  pub slots : after ≡ kept_or refusal before (written stored answers before n)
