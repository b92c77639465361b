-- The mark in a run whose frames all begin at 0: exactly what settling sets, each time it does.
use Rattle.std.specs.Prelude.{◌≡◌, ℕ, zero, suc, ◌+◌, ◌-◌, ◌≤◌, Bool, true, false, cond, ◌&&◌, List, [], ◌∷◌, ℤ, pos, negsuc, Some, None, Option, nat_le, nat_lt}
use Rattle.std.specs.Option.{unwrap_or}
use Rattle.column.specs.declared.column.Window.{Window}
use Rattle.nth_value.specs.declared.kind.NthValueKind.{NthValueKind}
use Rattle.nth_value.specs.declared.kind.NthValueKind.TheVariants.{First, Last, Nth}
use Rattle.nth_value.specs.declared.NthValue.{NthValue}
use Rattle.nth_value.specs.Nth.{nth_meaning, nth_stepped, nth_settling}

-- a step of such a run: an accepted request, with its window and its frame's end, or settling
pub data Step (V : Type 0) : Type 0 where
  request : Window V → ℕ → Step V
  settle : Step V

-- the number of answers given; of steps the latest comes first
abbrev pub given : {V : Type 0} → List (Step V) → ℕ
given [] = 0
given (request w e ∷ xs) = given xs + 1
given (settle ∷ xs) = given xs

-- the last frame's end, 0 where there is none
abbrev pub last_end : {V : Type 0} → List (Step V) → ℕ
last_end [] = 0
last_end (request w e ∷ xs) = e
last_end (settle ∷ xs) = last_end xs

-- the ends of frames never fall
abbrev pub EndsRise : {V : Type 0} → List (Step V) → Type 0
EndsRise [] = Unit {0}
EndsRise (request w e ∷ xs) = (last_end xs ≤ e) × EndsRise xs
EndsRise (settle ∷ xs) = EndsRise xs

-- what the steps leave of an evaluator
abbrev pub left_by : {V : Type 0} → NthValue V → List (Step V) → NthValue V
left_by e [] = e
left_by e (request w end ∷ xs) = nth_stepped (left_by e xs) (given xs) w (0, end)
left_by e (settle ∷ xs) = nth_settling (left_by e xs) (given xs) (0, last_end xs)

-- the mark that settling NTH sets, NULLs respected, after so many answers, the last over the rows up to e
abbrev pub mark_by_nth : ℤ → ℕ → ℕ → Option ℕ
mark_by_nth (pos zero) answers e = None
mark_by_nth (pos (suc n)) answers e = cond (nat_le (suc n) e && nat_lt (suc n) answers) (Some (e - 1)) None
mark_by_nth (negsuc n) answers e = cond (nat_le (suc n) e) (Some (e - suc n)) None

-- the mark that settling sets, if it sets one
abbrev pub mark_by : NthValueKind → Bool → ℕ → ℕ → Option ℕ
mark_by First ignoring answers e = cond (nat_lt 0 e) (Some (e - 1)) None
mark_by Last false answers e = Some (e - 1)
mark_by Last true answers e = None
mark_by (Nth n) false answers e = mark_by_nth n answers e
mark_by (Nth n) true answers e = None

-- the mark after the steps: 0 until settling sets one, and then the one that was set last
abbrev pub mark_after : {V : Type 0} → NthValueKind → Bool → List (Step V) → ℕ
mark_after kind ignoring [] = 0
mark_after kind ignoring (request w e ∷ xs) = mark_after kind ignoring xs
mark_after kind ignoring (settle ∷ xs) = unwrap_or (mark_by kind ignoring (given xs) (last_end xs)) (mark_after kind ignoring xs)

-- from this evaluator on the mark is what settling set last
abbrev pub SettledMark : {V : Type 0} → NthValue V → Type 0
SettledMark {V} e = (xs : List (Step V)) → EndsRise xs → (nth_meaning (left_by e xs)).keep ≡ mark_after e.kind e.ignore_nulls xs
