-- The cells of a column, and when two are the same.
use Rattle.std.specs.Prelude.{ℕ, ◌-◌, Bool, true, false, cond, List, [], ◌∷◌, Some, None, Option, nat_lt, slice_index_or}
use Rattle.column.specs.declared.column.Column.{Column}
use Rattle.column.specs.declared.column.Window.{Window}

-- values where the marks say that one is present, NULL elsewhere
abbrev pub cells : {V : Type 0} → List V → List Bool → List (Option V)
cells [] ms = []
cells (v ∷ vs) [] = []
cells (v ∷ vs) (true ∷ ms) = Some v ∷ cells vs ms
cells (v ∷ vs) (false ∷ ms) = None ∷ cells vs ms

-- the cells of a column
abbrev pub column_cells : {V : Type 0} → Column V → List (Option V)
column_cells c = cells c.values.now c.marks.now

-- both NULL, or both present and the same
abbrev pub same_cell : {V : Type 0} → (V → V → Bool) → Option V → Option V → Bool
same_cell same None None = true
same_cell same None (Some y) = false
same_cell same (Some x) None = false
same_cell same (Some x) (Some y) = same x y

-- the cell of a row as a window shows it, NULL where it does not
abbrev pub view : {V : Type 0} → Window V → ℕ → Option V
view w k = cond (nat_lt k w.begin) None (slice_index_or (column_cells w.rows) (k - w.begin) None)
