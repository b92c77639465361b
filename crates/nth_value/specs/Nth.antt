-- The meaning of FIRST, LAST and NTH.
use Rattle.std.specs.Prelude.{◌≡◌, ℕ, suc, ◌+◌, ◌<◌, ◌≤◌, Bool, false, cond, ◌&&◌, ◌||◌, ◌⊎◌, List, length, get_or, ℤ, pos, negsuc, Some, None, Ok, Err, Option, Result, nat_le, nat_lt, slice_index_or}
use Rattle.column.specs.declared.fault.Fault.{Fault}
use Rattle.column.specs.declared.fault.Fault.TheVariants.{MissingArgument, TooSmall}
use Rattle.column.specs.declared.column.Window.{Window}
use Rattle.column.specs.Cells.{view}
use Rattle.partition.specs.Table.{Frame}
use Rattle.evaluator.specs.declared.utils.Argument.{Argument}
use Rattle.evaluator.specs.Arguments.{signed_integer, opposite}
use Rattle.evaluator.specs.Meaning.{Partition, Meaning}
use Rattle.run.specs.Shown.{FromZero, Ordered, frame_at, frame_before}
use Rattle.present.specs.Present.{at}
use Rattle.nth_value.specs.declared.kind.NthValueKind.{NthValueKind}
use Rattle.nth_value.specs.declared.kind.NthValueKind.TheVariants.{First, Last, Nth}
use Rattle.nth_value.specs.declared.kind.Pick.{Pick}
use Rattle.nth_value.specs.declared.state.NthValueState.{NthValueState}
use Rattle.nth_value.specs.declared.NthValue.{NthValue}
use Rattle.nth_value.specs.Frames.{pick_of, value_in}
use Rattle.nth_value.specs.Settling.{start, answer_by, answered, settled_by}

-- row i is settled once it is there and its frame ends within the rows, or the rows are known to be all
abbrev pub frame_settled : {V : Type 0} → List (Option V) → List Frame → Bool → ℕ → Bool
frame_settled rows frames known i = nat_lt i (length rows) && (known || nat_le (get_or frames i (0, 0)).1 (length rows))

-- the answers over the frames of the rows
abbrev pub frame_answers : {V : Type 0} → Pick → Bool → List (Option V) → List Frame → ℕ → Option V
frame_answers pick ignoring rows frames i = value_in pick ignoring (at rows) (slice_index_or frames i (0, 0))

-- the answer of row i
abbrev pub nth_answer : {V : Type 0} → Pick → Bool → Partition V → ℕ → Option V
nth_answer pick ignoring p i = frame_answers pick ignoring p.rows p.frames i

-- the rows up to row e as they look once rows below the mark may be let go: each is there, or lies below the mark and is seen as NULL
abbrev pub Hides : {V : Type 0} → ℕ → List (Option V) → ℕ → (ℕ → Option V) → Type 0
Hides mark rows e cell = (k : ℕ) → k < e → (cell k ≡ at rows k) ⊎ ((k < mark) × (cell k ≡ None))

-- what is held at row i of a partition, whose later frames matter as far as they are in order
pub record Holding {V : Type 0} (pick : Pick) (ignoring : Bool) (h : NthValueState V) (p : Partition V) (i : ℕ) : Type 0 where
  -- the last answer is that of the row before
  pub last : (j : ℕ) → i ≡ suc j → h.last_answer ≡ nth_answer pick ignoring p j
  -- the mark is the last frame's start, or else all frames begin at 0
  pub mark : (h.mark ≡ (frame_before p i).0) ⊎ FromZero p
  -- a fixed answer is that of every later row
  pub fixed : (x : Option V) → h.finalized_result ≡ Some x → (j : ℕ) → i ≤ j → j < length p.frames → Ordered p (j + 1) → x ≡ nth_answer pick ignoring p j
  -- without one, the answer of every later row can do without the rows below the mark
  pub kept : h.finalized_result ≡ None → (j : ℕ) → i ≤ j → j < length p.frames → Ordered p (j + 1) → (cell : ℕ → Option V) → Hides h.mark p.rows (frame_at p j).1 cell → value_in pick ignoring cell (frame_at p j) ≡ nth_answer pick ignoring p j

-- the meaning of FIRST, LAST or NTH
abbrev pub nth_meaning : {V : Type 0} → NthValue V → Meaning V (Option V)
nth_meaning e = record {
  answer = nth_answer (pick_of e.kind) e.ignore_nulls;
  stands = λ p i. Holding (pick_of e.kind) e.ignore_nulls e.state p i;
  settled = frame_settled;
  keep = e.state.mark;
}

-- the same function, holding this
abbrev pub holding : {V : Type 0} → NthValue V → NthValueState V → NthValue V
holding e h = record { kind = e.kind; ignore_nulls = e.ignore_nulls; state = h }

-- the same function, holding nothing
abbrev pub nth_renewed : {V : Type 0} → NthValue V → NthValue V
nth_renewed e = holding e start

-- what an accepted row call leaves
abbrev pub nth_stepped : {V : Type 0} → NthValue V → ℕ → Window V → Frame → NthValue V
nth_stepped e i w f = holding e (answered e.state (answer_by (pick_of e.kind) e.ignore_nulls e.state (view w) f) f)

-- what settling leaves
abbrev pub nth_settling : {V : Type 0} → NthValue V → ℕ → Frame → NthValue V
nth_settling e i f = holding e (settled_by e.kind e.ignore_nulls e.state i f)

-- FIRST and LAST change places, and n is negated
abbrev pub turned_kind : NthValueKind → NthValueKind
turned_kind First = Last
turned_kind Last = First
turned_kind (Nth n) = Nth (opposite n)

-- the same function from the other end
abbrev pub nth_mirrored : {V : Type 0} → NthValue V → NthValue V
nth_mirrored e = record { kind = turned_kind e.kind; ignore_nulls = e.ignore_nulls; state = start }

-- a new FIRST, LAST or NTH
abbrev pub new_of : {V : Type 0} → NthValueKind → Bool → NthValue V
new_of kind ignoring = record { kind = kind; ignore_nulls = ignoring; state = start }

-- -2^63, or below
abbrev pub too_small : ℤ → Bool
too_small (pos a) = false
too_small (negsuc a) = nat_le 9223372036854775807 a

-- NTH's argument is asked for, and may not be the smallest number
abbrev pub nth_by : {V : Type 0} → Bool → Result (Option ℤ) Fault → Result (NthValue V) Fault
nth_by ignoring (Err f) = Err f
nth_by ignoring (Ok None) = Err (MissingArgument 1)
nth_by ignoring (Ok (Some n)) = cond (too_small n) (Err (TooSmall 1)) (Ok (new_of (Nth n) ignoring))

-- a new NTH, or the refusal of its argument
abbrev pub making : {V : Type 0} → Argument → Bool → Result (NthValue V) Fault
making argument ignoring = nth_by ignoring (signed_integer argument)
