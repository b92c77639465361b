-- The laws of the two outputs.
use Rattle.std.specs.Prelude.{◌≡◌, ℕ, min, true, false, List, length, Some, None, Option, slice_set, refl}
use Rattle.std.proofs.Common.{◌∙◌, ap, length-set}
use Rattle.column.specs.Slots.{OutputLaws, CellSlots, put_cell, cell_count}
use Rattle.column.specs.declared.output.Cells.{Cells}
use Rattle.column.specs.declared.output.Numbers.{Numbers}

-- the same lent list, whatever it holds
abbrev pub same_list : {A : Type 0} → Numbers A → Numbers A → Type 0
same_list b c = b.list.ghost_name ≡ c.list.ghost_name

pub number_laws : {A : Type 0} → OutputLaws {X = Numbers A} {S = List A} {A = A} (λ s i a. slice_set s i a) (λ s. length s) same_list
number_laws = record { size_stays = λ s i a. length-set s i a; refl = λ x. refl; trans = λ x y z p q. p ∙ q }

-- what the two lists hold
abbrev pub cell_slots : {V : Type 0} → Cells V → CellSlots V
cell_slots b = record { values = b.values.now; marks = b.marks.now }

-- the same two lent lists
abbrev pub same_lists : {V : Type 0} → Cells V → Cells V → Type 0
same_lists b c = (b.values.ghost_name ≡ c.values.ghost_name) × (b.marks.ghost_name ≡ c.marks.ghost_name)

cells_stay : {V : Type 0} (s : CellSlots V) (i : ℕ) (a : Option V) → cell_count (put_cell s i a) ≡ cell_count s
cells_stay s i None = ap (λ (n : ℕ). min (length s.values) n) (length-set s.marks i false)
cells_stay s i (Some v) = ap (λ (n : ℕ). min n (length (slice_set s.marks i true))) (length-set s.values i v) ∙ ap (λ (n : ℕ). min (length s.values) n) (length-set s.marks i true)

pub cell_laws : {V : Type 0} → OutputLaws {X = Cells V} {S = CellSlots V} {A = Option V} put_cell cell_count same_lists
cell_laws = record { size_stays = cells_stay; refl = λ x. (refl, refl); trans = λ x y z p q. (p.0 ∙ q.0, p.1 ∙ q.1) }
