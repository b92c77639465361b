-- The cells that an accepted call leaves.
use Rattle.std.proofs.Common.{◌≡◌, ℕ, zero, suc, ◌+◌, ◌<◌, ◌≤◌, Bool, true, false, List, [], ◌∷◌, length, take, map, get_or, Option, Some, None, is_some, refl, ap, ◌∙◌, arith}
use Rattle.std.specs.Bool.{then_some}
use Rattle.std.specs.List.{range_with_len}
use Rattle.std.specs.Option.{unwrap_or}
use Rattle.column.specs.Cells.{cells}
use Rattle.column.specs.Slots.{CellSlots, Filled, cell_count}

chosen : {V : Type 0} (o : Option V) (b : Bool) (x y : V) → b ≡ is_some o → x ≡ unwrap_or o y → then_some b x ≡ o
chosen None b x y e h = ap (λ c. then_some c x) e
chosen (Some z) b x y e h = ap (λ c. then_some c x) e ∙ ap Some h

told : {V : Type 0} (f : ℕ → Option V) (vs : List V) (ms : List Bool) (a n : ℕ) → n ≤ length vs → n ≤ length ms → ((k : ℕ) (x : V) → k < n → x ≡ get_or vs k x → then_some (get_or ms k false) x ≡ f (a + k)) → take n (cells vs ms) ≡ map f (range_with_len a n)
told f vs ms a zero l m each = refl
told f [] ms a (suc n) l m each = absurd (omega arith)
told f (v ∷ vs) [] a (suc n) l m each = absurd (omega arith)
told f (v ∷ vs) (true ∷ ms) a (suc n) l m each = ap (λ c. c ∷ take n (cells vs ms)) (each 0 v (omega arith) refl ∙ ap f (omega arith)) ∙ ap (λ t. f a ∷ t) (told f vs ms (a + 1) n (omega arith) (omega arith) (λ k x h e. each (suc k) x (omega arith) e ∙ ap f (omega arith)))
told f (v ∷ vs) (false ∷ ms) a (suc n) l m each = ap (λ c. c ∷ take n (cells vs ms)) (each 0 v (omega arith) refl ∙ ap f (omega arith)) ∙ ap (λ t. f a ∷ t) (told f vs ms (a + 1) n (omega arith) (omega arith) (λ k x h e. each (suc k) x (omega arith) e ∙ ap f (omega arith)))

pub filled_cells : {V : Type 0} (f : ℕ → Option V) (n : ℕ) (s t : CellSlots V) → n ≤ cell_count s → Filled f n s t → take n (cells t.values t.marks) ≡ map f (range_with_len 0 n)
filled_cells f n s t room h =
    told f t.values t.marks 0 n (omega (arith, room, h.values_long)) (omega (arith, room, h.marks_long))
    (λ k x l e. chosen (f k) (get_or t.marks k false) x (get_or s.values k x) (h.marks_at k l) (e ∙ h.values_at k x l) ∙ ap f (omega arith))

-- the cells of the front of two lists are the front of their cells
pub cells_front : {V : Type 0} (n : ℕ) (vs : List V) (ms : List Bool) → cells (take n vs) (take n ms) ≡ take n (cells vs ms)
cells_front zero vs ms = refl
cells_front (suc n) [] ms = refl
cells_front (suc n) (v ∷ vs) [] = refl
cells_front (suc n) (v ∷ vs) (true ∷ ms) = ap (λ l. Some v ∷ l) (cells_front n vs ms)
cells_front (suc n) (v ∷ vs) (false ∷ ms) = ap (λ l. None ∷ l) (cells_front n vs ms)
