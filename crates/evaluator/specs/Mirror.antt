-- Turning a partition, and what a mirror of an evaluator is.
use Rattle.std.specs.Prelude.{◌≡◌, ℕ, ◌-◌, ◌<◌, Bool, List, [], ◌∷◌, map, reverse, None, Ok, Option, Result}
use Rattle.column.specs.declared.fault.Fault.{Fault}
use Rattle.column.specs.Cells.{cells}
use Rattle.column.specs.Slots.{written}
use Rattle.partition.specs.Peers.{Group, peers}
use Rattle.partition.specs.Table.{Frame, Input, row_count, whole_refusal}
use Rattle.evaluator.specs.Meaning.{Partition, Meaning, partition}

-- a frame of n rows, turned
abbrev pub turned_frame : ℕ → Frame → Frame
turned_frame n f = (n - f.1, n - f.0)

-- groups that are handed over become the turned column's
abbrev pub turned_groups : List Group → List Group → List Group
turned_groups [] hs = []
turned_groups (g ∷ gs) hs = hs

-- row j is the old row n - 1 - j
abbrev pub turned : {V : Type 0} → (V → V → Bool) → Input V → Input V
turned same x = record {
  values = reverse x.values;
  marks = reverse x.marks;
  frames = map (turned_frame (row_count x)) (reverse x.frames);
  groups = turned_groups x.groups (peers same (cells (reverse x.values) (reverse x.marks)));
}

-- r is the mirror of the evaluator e; `renewed` and `mirrored` are what `fresh` and `mirror` give
pub record Mirror {V A S : Type 0} (same : V → V → Bool) (wants_frames wants_groups : Bool) (meaning : S → Meaning V A) (renewed mirrored : S → S) (e r : S) : Type 0 where
  pub is : r ≡ mirrored e
  -- a mirror's mirror is the evaluator made fresh
  pub twice : mirrored (mirrored e) ≡ renewed e
  -- mirrors are made fresh
  pub fresh : (p : Partition V) → (meaning r).stands p 0
  -- where the evaluator's call is accepted, so is the mirror's on the turned partition
  pub accepted : (x : Input V) (size : ℕ) → whole_refusal same wants_frames wants_groups x size ≡ None → whole_refusal same wants_frames wants_groups (turned same x) size ≡ None
  -- and its answer at row n - 1 - i is the evaluator's at row i
  pub answers : (x : Input V) (size : ℕ) → whole_refusal same wants_frames wants_groups x size ≡ None → (i : ℕ) → i < row_count x → (meaning r).answer (partition wants_frames (turned same x)) (row_count x - 1 - i) ≡ (meaning e).answer (partition wants_frames x) i

-- a mirror's call on the turned partition, where the evaluator's would be accepted: the answers in reverse
abbrev pub Mirrored : {A S : Type 0} → (S → ℕ → A → S) → Option Fault → (ℕ → A) → ℕ → S → S → Result (Unit {0}) Fault → Type 0
Mirrored stored refusal answers n before after r = refusal ≡ None → (r ≡ Ok tt) × (after ≡ written stored (λ j. answers (n - 1 - j)) before n)
