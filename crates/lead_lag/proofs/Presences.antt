-- Where no row is NULL, present rows are counted as rows are.
use Rattle.std.proofs.Common.{◌≡◌, ℕ, zero, suc, ◌+◌, ◌-◌, ◌<◌, ◌≤◌, Bool, true, false, cond, ltb, List, [], ◌∷◌, length, get_or, is_some, Some, None, Option, sym, refl, ap, ◌∙◌, arith}
use Rattle.std.specs.List.{slice_get}
use Rattle.std.proofs.lemmas.Bool.{cond-true}
use Rattle.std.proofs.lemmas.Bool.Decides.{nat_tests}
use Rattle.column.specs.declared.column.Column.{Column}
use Rattle.column.specs.Cells.{cells, column_cells}
use Rattle.column.proofs.Cells.{length-cells}
use Rattle.column.specs.Slots.{written}
use Rattle.column.proofs.Writes.{written_same}
use Rattle.lead_lag.specs.declared.offset.Way.{Way}
use Rattle.lead_lag.specs.declared.offset.Way.TheVariants.{Own, Back, Ahead}
use Rattle.present.specs.Present.{at, before, ahead}
use Rattle.lead_lag.specs.Shift.{Proper, source_row, taken, shifted}

before_all : {V : Type 0} (f : ℕ → Option V) (i j : ℕ) → ((k : ℕ) → k < i → is_some (f k) ≡ true) → slice_get (before f i) j ≡ cond (ltb j i) (Some (i - 1 - j)) None
before_all f zero j h = grind (arith, nat_tests)
before_all f (suc n) zero h = ap (λ (xs : List ℕ). slice_get xs 0) (cond-true (is_some (f n)) (n ∷ before f n) (before f n) (h n (omega arith))) ∙ grind (arith, nat_tests)
before_all f (suc n) (suc j) h =
    let e : suc n - 1 - suc j ≡ n - 1 - j = omega arith in
    ap (λ (xs : List ℕ). slice_get xs (suc j)) (cond-true (is_some (f n)) (n ∷ before f n) (before f n) (h n (omega arith))) ∙ (before_all f n j (λ k l. h k (omega arith)) ∙ grind (arith, nat_tests, e))

ahead_all : {V : Type 0} (f : ℕ → Option V) (n k j : ℕ) → ((x : ℕ) → k ≤ x → x < k + n → is_some (f x) ≡ true) → slice_get (ahead f k n) j ≡ cond (ltb j n) (Some (k + j)) None
ahead_all f zero k j h = grind (arith, nat_tests)
ahead_all f (suc n) k zero h = ap (λ (xs : List ℕ). slice_get xs 0) (cond-true (is_some (f k)) (k ∷ ahead f (k + 1) n) (ahead f (k + 1) n) (h k (omega arith) (omega arith))) ∙ grind (arith, nat_tests)
ahead_all f (suc n) k (suc j) h =
    let e : k + 1 + j ≡ k + suc j = omega arith in
    ap (λ (xs : List ℕ). slice_get xs (suc j)) (cond-true (is_some (f k)) (k ∷ ahead f (k + 1) n) (ahead f (k + 1) n) (h k (omega arith) (omega arith))) ∙ (ahead_all f n (k + 1) j (λ x u v. h x (omega arith) (omega arith)) ∙ grind (arith, nat_tests, e))

source_all : {V : Type 0} (way : Way) (rows : List (Option V)) (i : ℕ) → Proper way → i < length rows → ((k : ℕ) → k < length rows → is_some (at rows k) ≡ true) → source_row way true rows i ≡ source_row way false rows i
source_all Own rows i p l h = refl
source_all (Back m) rows i p l h = before_all (at rows) i (m - 1) (λ k u. h k (omega arith)) ∙ grind (arith, nat_tests, p)
source_all (Ahead m) rows i p l h = ahead_all (at rows) (length rows - (i + 1)) (i + 1) (m - 1) (λ x u v. h x (omega arith)) ∙ grind (arith, nat_tests, p, l)

cells_all : {V : Type 0} (vs : List V) (ms : List Bool) (k : ℕ) → length vs ≡ length ms → k < length vs → ((j : ℕ) → j < length ms → get_or ms j false ≡ true) → is_some (at (cells vs ms) k) ≡ true
cells_all [] ms k e l h = absurd (omega arith)
cells_all (v ∷ vs) [] k e l h = absurd (omega arith)
cells_all (v ∷ vs) (true ∷ ms) zero e l h = refl
cells_all (v ∷ vs) (false ∷ ms) zero e l h = let n : false ≡ true = h 0 (omega arith) in let z : ◌≡◌ {A = ℕ} 0 1 = cc in absurd (omega arith)
cells_all (v ∷ vs) (true ∷ ms) (suc k) e l h = cells_all vs ms k (omega arith) (omega arith) (λ j u. h (suc j) (omega arith))
cells_all (v ∷ vs) (false ∷ ms) (suc k) e l h = cells_all vs ms k (omega arith) (omega arith) (λ j u. h (suc j) (omega arith))

-- all answers with NULLs as rows are those with NULLs ignored
pub as_rows : {V S : Type 0} (put : S → ℕ → Option V → S) (s : S) (way : Way) (ignoring : Bool) (d : Option V) (c : Column V) → length c.values.now ≡ length c.marks.now → Proper way → ((k : ℕ) → k < length c.marks.now → get_or c.marks.now k false ≡ true) → written put (shifted way false d (column_cells c)) s (length c.values.now) ≡ written put (shifted way ignoring d (column_cells c)) s (length c.values.now)
as_rows put s way false d c e p h = refl
as_rows put s way true d c e p h =
    let n : length (column_cells c) ≡ length c.values.now = length-cells c.values.now c.marks.now e in
    written_same put (shifted way false d (column_cells c)) (shifted way true d (column_cells c)) s (length c.values.now) (λ k l. ap (taken (at (column_cells c)) d) (sym (source_all way (column_cells c) k p (omega (arith, n)) (λ j u. cells_all c.values.now c.marks.now j e (omega (arith, n)) h))))
