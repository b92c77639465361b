-- What an evaluator of frames holds, and what a row call and settling make of it.
use Rattle.std.specs.Prelude.{◌≡◌, ℕ, zero, suc, ◌-◌, ◌≤◌, max, Bool, true, false, cond, not, ◌&&◌, List, [], ◌∷◌, ℤ, pos, negsuc, is_some, Some, None, Option, nat_le, nat_lt}
use Rattle.std.specs.Option.{unwrap_or}
use Rattle.partition.specs.Table.{Frame}
use Rattle.nth_value.specs.declared.kind.NthValueKind.{NthValueKind}
use Rattle.nth_value.specs.declared.kind.NthValueKind.TheVariants.{First, Last, Nth}
use Rattle.nth_value.specs.declared.kind.Pick.{Pick}
use Rattle.nth_value.specs.declared.state.NthValueState.{NthValueState}
use Rattle.nth_value.specs.Frames.{value_in}

-- before the first row: no answer yet, none fixed, every row may be read
abbrev pub start : {V : Type 0} → NthValueState V
start = record { last_answer = None; finalized_result = None; mark = 0 }

-- the answer over a frame: the fixed one if there is one
abbrev pub answer_by : {V : Type 0} → Pick → Bool → NthValueState V → (ℕ → Option V) → Frame → Option V
answer_by pick ignoring h cell f = unwrap_or h.finalized_result (value_in pick ignoring cell f)

-- after an accepted row the answer is held, and the mark is at least the frame's start
abbrev pub answered : {V : Type 0} → NthValueState V → Option V → Frame → NthValueState V
answered h answer f = record { last_answer = answer; finalized_result = h.finalized_result; mark = max h.mark f.0 }

-- the mark raised
abbrev pub raised : {V : Type 0} → NthValueState V → ℕ → NthValueState V
raised h mark = record { last_answer = h.last_answer; finalized_result = h.finalized_result; mark = max h.mark mark }

-- the last answer fixed, and the mark raised
abbrev pub fixed : {V : Type 0} → NthValueState V → ℕ → NthValueState V
fixed h mark = record { last_answer = h.last_answer; finalized_result = Some h.last_answer; mark = max h.mark mark }

-- settling FIRST: over a frame that is not empty its last answer is fixed, unless that is NULL with NULLs ignored, and the mark rises to the frame's last row
abbrev pub settled_first : {V : Type 0} → Bool → NthValueState V → Frame → NthValueState V
settled_first ignoring h f = cond (nat_lt f.0 f.1) (cond (ignoring && not (is_some h.last_answer)) (raised h (f.1 - 1)) (fixed h (f.1 - 1))) h

-- settling NTH, NULLs respected: counted from the start it is fixed once the frame holds n rows and more than n answers were given; counted from the end the mark rises once the frame holds so many rows
abbrev pub settled_nth : {V : Type 0} → ℤ → NthValueState V → ℕ → Frame → NthValueState V
settled_nth (pos zero) h given f = h
settled_nth (pos (suc n)) h given f = cond (nat_le (suc n) (f.1 - f.0) && nat_lt (suc n) given) (fixed h (f.1 - 1)) h
settled_nth (negsuc n) h given f = cond (nat_le (suc n) (f.1 - f.0)) (raised h (f.1 - suc n)) h

-- settling after so many answers, the last over this frame
abbrev pub settled_by : {V : Type 0} → NthValueKind → Bool → NthValueState V → ℕ → Frame → NthValueState V
settled_by First ignoring h given f = settled_first ignoring h f
settled_by Last false h given f = raised h (f.1 - 1)
settled_by Last true h given f = h
settled_by (Nth n) false h given f = settled_nth n h given f
settled_by (Nth n) true h given f = h

-- what accepted rows leave, each an answer and its frame, without settling
abbrev pub unsettled : {V : Type 0} → NthValueState V → List (Option V × Frame) → NthValueState V
unsettled h [] = h
unsettled h (x ∷ xs) = unsettled (answered h x.0 x.1) xs

-- the frames begin at row s or later, and their starts never fall
abbrev pub Rising : {V : Type 0} → ℕ → List (Option V × Frame) → Type 0
Rising s [] = Unit {0}
Rising s (x ∷ xs) = (s ≤ x.1.0) × Rising x.1.0 xs

-- the last frame's start, s where there is none
abbrev pub last_start : {V : Type 0} → ℕ → List (Option V × Frame) → ℕ
last_start s [] = s
last_start s (x ∷ xs) = last_start x.1.0 xs

-- before any settling the mark is exactly the last frame's start
abbrev pub MarkLaw : Type 0 → Type 0
MarkLaw V = (xs : List (Option V × Frame)) → Rising 0 xs → (unsettled start xs).mark ≡ last_start 0 xs
