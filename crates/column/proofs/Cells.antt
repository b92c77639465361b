-- The cells of a column, by place.
use Rattle.std.proofs.Common.{◌≡◌, ℕ, zero, suc, ◌-◌, ◌<◌, ◌≤◌, Bool, true, false, ltb, List, [], ◌∷◌, length, get_or, map, Vec, Result, IfOk, Option, Some, None, refl, ap, ◌∙◌, ⊎_elim, arith}
use Rattle.std.proofs.lemmas.Bool.{cases_Bool, cond-false, le-ltb}
use Rattle.std.proofs.lemmas.Result.{IfOk-weaker}
use Rattle.std.specs.Bool.{then_some}
use Rattle.std.specs.List.{zip}
use Rattle.column.specs.declared.column.Column.{Column}
use Rattle.column.specs.Cells.{cells, column_cells, view}

-- the cell of a row that is marked present
pub cell_present : {V : Type 0} (vs : List V) (ms : List Bool) (k : ℕ) (x : V) → x ≡ get_or vs k x → k < length vs → get_or ms k false ≡ true → Some x ≡ get_or (cells vs ms) k None
cell_present [] ms k x e h m = absurd (omega arith)
cell_present (v ∷ vs) [] k x e h m = let z : ◌≡◌ {A = ℕ} 0 1 = cc in absurd (omega arith)
cell_present (v ∷ vs) (true ∷ ms) zero x e h m = ap Some e
cell_present (v ∷ vs) (false ∷ ms) zero x e h m = let z : ◌≡◌ {A = ℕ} 0 1 = cc in absurd (omega arith)
cell_present (v ∷ vs) (true ∷ ms) (suc k) x e h m = cell_present vs ms k x e (omega arith) m
cell_present (v ∷ vs) (false ∷ ms) (suc k) x e h m = cell_present vs ms k x e (omega arith) m

-- the cell of a row that is marked NULL
pub cell_null : {V : Type 0} (vs : List V) (ms : List Bool) (k : ℕ) → get_or ms k false ≡ false → None ≡ get_or (cells vs ms) k None
cell_null [] ms k m = refl
cell_null (v ∷ vs) [] k m = refl
cell_null (v ∷ vs) (true ∷ ms) zero m = let z : ◌≡◌ {A = ℕ} 0 1 = cc in absurd (omega arith)
cell_null (v ∷ vs) (false ∷ ms) zero m = refl
cell_null (v ∷ vs) (true ∷ ms) (suc k) m = cell_null vs ms k m
cell_null (v ∷ vs) (false ∷ ms) (suc k) m = cell_null vs ms k m

-- the cell of a row that has a value
pub cell_within : {V : Type 0} (vs : List V) (ms : List Bool) (k : ℕ) (x : V) → x ≡ get_or vs k x → k < length vs → then_some (get_or ms k false) x ≡ get_or (cells vs ms) k None
cell_within vs ms k x e h = ⊎_elim (λ t. ap (λ b. then_some b x) t ∙ cell_present vs ms k x e h t) (λ f. ap (λ b. then_some b x) f ∙ cell_null vs ms k f) (cases_Bool (get_or ms k false))

-- past the values
pub cell_past : {V : Type 0} (vs : List V) (ms : List Bool) (k : ℕ) → length vs ≤ k → None ≡ get_or (cells vs ms) k None
cell_past [] ms k h = refl
cell_past (v ∷ vs) [] k h = refl
cell_past (v ∷ vs) (m ∷ ms) zero h = absurd (omega arith)
cell_past (v ∷ vs) (true ∷ ms) (suc k) h = cell_past vs ms k (omega arith)
cell_past (v ∷ vs) (false ∷ ms) (suc k) h = cell_past vs ms k (omega arith)

-- values beside marks, each pair a cell
cells_zip : {V : Type 0} (vs : List V) (ms : List Bool) → map (λ (p : V × Bool). then_some p.1 p.0) (zip vs ms) ≡ cells vs ms
cells_zip [] ms = refl
cells_zip (v ∷ vs) [] = refl
cells_zip (v ∷ vs) (true ∷ ms) = ap (λ l. Some v ∷ l) (cells_zip vs ms)
cells_zip (v ∷ vs) (false ∷ ms) = ap (λ l. None ∷ l) (cells_zip vs ms)

-- the same of a list that a call may give
pub zipped : {V E Y : Type 0} (r : Result (Vec (Option V) Y) E) (vs : List V) (ms : List Bool) → IfOk r (λ v. v.items ≡ map (λ (p : V × Bool). then_some p.1 p.0) (zip vs ms)) → IfOk r (λ v. v.items ≡ cells vs ms)
zipped r vs ms h = IfOk-weaker r _ _ (λ v e. e ∙ cells_zip vs ms) h

pub length-cells : {V : Type 0} (vs : List V) (ms : List Bool) → length vs ≡ length ms → length (cells vs ms) ≡ length vs
length-cells [] ms h = refl
length-cells (v ∷ vs) [] h = absurd (omega arith)
length-cells (v ∷ vs) (true ∷ ms) h = ap suc (length-cells vs ms (omega arith))
length-cells (v ∷ vs) (false ∷ ms) h = ap suc (length-cells vs ms (omega arith))

-- the window that shows all of a column
pub view-all : {V : Type 0} (c : Column V) (k : ℕ) → view (record { begin = 0; rows = c }) k ≡ get_or (column_cells c) k None
view-all c k = let e : k - 0 ≡ k = omega arith in cond-false (ltb k 0) None (get_or (column_cells c) (k - 0) None) (le-ltb k 0 (omega arith)) ∙ ap (λ (x : ℕ). get_or (column_cells c) x None) e
