-- Lent lists of values and of marks, 0 or 1, as slots.
use Rattle.std.specs.Prelude.{◌≡◌, ℕ, ◌<◌, ◌≤◌, min, slice_index_or, List, length, Some, None, Option, slice_set, refl}
use Rattle.std.proofs.Common.{◌∙◌, ap, length-set}
use Rattle.column.specs.Slots.{OutputLaws}
use Rattle.wire.specs.declared.output.LentCells.{LentCells}

-- the slots of such lists
pub record LentSlots (N : Type 0) : Type 0 where
  pub values : List N
  pub marks : List ℕ

-- NULL sets the mark 0 and keeps the value
abbrev pub put_lent : {V N : Type 0} → (V → N) → LentSlots N → ℕ → Option V → LentSlots N
put_lent numbers s i None = record { values = s.values; marks = slice_set s.marks i 0 }
put_lent numbers s i (Some v) = record { values = slice_set s.values i (numbers v); marks = slice_set s.marks i 1 }

-- the shorter of the two lists
abbrev pub lent_count : {N : Type 0} → LentSlots N → ℕ
lent_count s = min (length s.values) (length s.marks)

-- what the two lists hold
abbrev pub lent_slots : {C N : Type 0} → LentCells C N → LentSlots N
lent_slots b = record { values = b.values.now; marks = b.marks.now }

-- the same two lent lists
abbrev pub same_lent : {C N : Type 0} → LentCells C N → LentCells C N → Type 0
same_lent b c = (b.values.ghost_name ≡ c.values.ghost_name) × (b.marks.ghost_name ≡ c.marks.ghost_name)

lent_stay : {V N : Type 0} (numbers : V → N) (s : LentSlots N) (i : ℕ) (a : Option V) → lent_count (put_lent numbers s i a) ≡ lent_count s
lent_stay numbers s i None = ap (λ (n : ℕ). min (length s.values) n) (length-set s.marks i 0)
lent_stay numbers s i (Some v) = ap (λ (n : ℕ). min n (length (slice_set s.marks i 1))) (length-set s.values i (numbers v)) ∙ ap (λ (n : ℕ). min (length s.values) n) (length-set s.marks i 1)

pub lent_laws : {C V N : Type 0} (numbers : V → N) → OutputLaws {X = LentCells C N} {S = LentSlots N} {A = Option V} (put_lent numbers) lent_count same_lent
lent_laws numbers = record { size_stays = lent_stay numbers; refl = λ x. (refl, refl); trans = λ x y z p q. (p.0 ∙ q.0, p.1 ∙ q.1) }

-- the mark of an answer
abbrev pub mark_of : {V : Type 0} → Option V → ℕ
mark_of None = 0
mark_of (Some v) = 1

-- what stands at an answer's place, where that was there
abbrev pub value_of : {V N : Type 0} → (V → N) → Option V → N → N
value_of numbers None n = n
value_of numbers (Some v) n = numbers v

-- lent lists after the answers of n rows: a NULL answer keeps the value, and what lies beyond stays
pub record LentFilled {V N : Type 0} (numbers : V → N) (answers : ℕ → Option V) (n : ℕ) (before after : LentSlots N) : Type 0 where
  pub marks_long : length after.marks ≡ length before.marks
  pub values_long : length after.values ≡ length before.values
  pub marks_at : (k : ℕ) → k < n → slice_index_or after.marks k 0 ≡ mark_of (answers k)
  pub values_at : (k : ℕ) (d : N) → k < n → slice_index_or after.values k d ≡ value_of numbers (answers k) (slice_index_or before.values k d)
  pub marks_beyond : (k : ℕ) → n ≤ k → slice_index_or after.marks k 0 ≡ slice_index_or before.marks k 0
  pub values_beyond : (k : ℕ) (d : N) → n ≤ k → slice_index_or after.values k d ≡ slice_index_or before.values k d
