-- What a cursor knows, one row on.
use Rattle.std.proofs.Common.{◌≡◌, ℕ, ◌+◌, ◌-◌, ◌<◌, ◌≤◌, List, reverse, Option, sym, ap, ◌∙◌, subst, ⊎_elim, arith}
use Rattle.std.proofs.lemmas.Bool.{cases_lt}
use Rattle.std.specs.List.{slice_get}
use Rattle.column.specs.declared.column.Window.{Window}
use Rattle.column.specs.declared.column.Column.{Column}
use Rattle.column.specs.Cells.{column_cells, view}
use Rattle.column.proofs.Cells.{view-all}
use Rattle.present.specs.declared.held.Held.{Held}
use Rattle.present.specs.Present.{at, before, ahead}
use Rattle.present.specs.Counting.{Counting, counted_row, oldest_source, up_to}
use Rattle.present.proofs.Ahead.{ahead-same}
use Rattle.present.proofs.Counts.{number_of}
use Rattle.present.proofs.Parts.{from_on, cut, behind-before, ahead_part}
use Rattle.present.proofs.Counting.{counts_next, counted-source}
use Rattle.nth_value.specs.declared.cursor.Reached.{Reached}
use Rattle.nth_value.specs.Frames.{cell_of}
use Rattle.nth_value.specs.Cursors.{ShowsAll, Reaches}
use Rattle.nth_value.specs.Local.{cell_same}

-- the present rows as the window shows them are those of the rows
pub shown-ahead : {V : Type 0} (w : Window V) (rows : List (Option V)) → ShowsAll w rows → (s n : ℕ) → ahead (view w) s n ≡ ahead (at rows) s n
shown-ahead w rows h s n = ahead-same (view w) (at rows) s n (λ k l u. h k)

-- one row more is counted
pub count_on : {V : Type 0} (w : Window V) (rows : List (Option V)) (m row : ℕ) (h h' : Held) → ShowsAll w rows → 0 < m → h' ≡ counted_row m h (view w) row (row + 1) → Counting m h rows row × (h.next ≡ row) → Counting m h' rows (row + 1) × (h'.next ≡ row + 1)
count_on w rows m row h h' all l e d =
    subst (λ (x : Held). Counting m x rows (row + 1) × (x.next ≡ row + 1)) (sym e) (
      counts_next m h rows row (view w) l d.0 (λ k u v. all k),
      omega (arith, d.1),
    )

-- the m-th present row from the frame's end, by what is counted up to that end
counted_behind : {V : Type 0} (f : ℕ → Option V) (s e j : ℕ) → from_on s (slice_get (before f e) j) ≡ slice_get (reverse (ahead f s (e - s))) j
counted_behind f s e j = ⊎_elim
    (λ lt. let z : e - s ≡ 0 = omega arith in sym (cut s (slice_get (before f e) j) (λ r q. omega (arith, (number_of f e j r q).below))) ∙ sym (ap (λ (n : ℕ). slice_get (reverse (ahead f s n)) j) z))
    (λ ge. sym (behind-before f s e j ge))
    (cases_lt e s)

pub behind_found : {V : Type 0} (rows : List (Option V)) (m s e : ℕ) (h : Held) (o r : Option ℕ) → 0 < m → Counting m h rows e → o ≡ oldest_source m h → r ≡ from_on s o → r ≡ slice_get (reverse (ahead (at rows) s (e - s))) (m - 1)
behind_found rows m s e h o r l c eo er = er ∙ (ap (from_on s) (eo ∙ counted-source m h rows e l c) ∙ counted_behind (at rows) s e (m - 1))

-- the m-th present row from the frame's start, by the m-th of all rows from there
pub ahead_found : {V : Type 0} (f : ℕ → Option V) (n m s e : ℕ) (o r : Option ℕ) → s ≤ e → e ≤ n → o ≡ slice_get (ahead f s (n - s)) (m - 1) → r ≡ up_to e o → r ≡ slice_get (ahead f s (e - s)) (m - 1)
ahead_found f n m s e o r le l eo er = er ∙ (ap (up_to e) eo ∙ sym (ahead_part f s e n (m - 1) le l))

-- the row reached, as the window shows it and of the rows
pub known-ahead : {V : Type 0} (w : Window V) (rows : List (Option V)) → ShowsAll w rows → (n : ℕ) (a : Reached) → Reaches (at rows) n a → Reaches (view w) n a
known-ahead w rows all n a k = k ∙ sym (ap (λ (xs : List ℕ). slice_get xs (a.m - 1)) (shown-ahead w rows all a.start (n - a.start)))

pub told_ahead : {V : Type 0} (w : Window V) (rows : List (Option V)) → ShowsAll w rows → (n : ℕ) (a : Reached) → Reaches (view w) n a → Reaches (at rows) n a
told_ahead w rows all n a k = k ∙ ap (λ (xs : List ℕ). slice_get xs (a.m - 1)) (shown-ahead w rows all a.start (n - a.start))

-- the cell of the row found, as the window that shows a whole column gives it
pub found_cell : {V : Type 0} (c : Column V) (row found : Option ℕ) (x : Option V) → row ≡ found → x ≡ cell_of (view (record { begin = 0; rows = c })) row → x ≡ cell_of (at (column_cells c)) found
found_cell c row found x e q = q ∙ (cell_same (view (record { begin = 0; rows = c })) (at (column_cells c)) row (λ r h. view-all c r) ∙ ap (cell_of (at (column_cells c))) e)
