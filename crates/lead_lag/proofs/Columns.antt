-- A column as the window that shows all of it.
use Rattle.std.proofs.Common.{◌≡◌, ℕ, ◌+◌, ◌-◌, ◌<◌, Bool, true, false, List, length, Option, refl, sym, ap, ◌∙◌, subst, arith}
use Rattle.std.specs.List.{slice_get}
use Rattle.column.specs.declared.column.Column.{Column}
use Rattle.column.specs.declared.column.Window.{Window}
use Rattle.column.specs.Cells.{column_cells, view}
use Rattle.column.proofs.Cells.{view-all}
use Rattle.present.specs.declared.held.Held.{Held}
use Rattle.lead_lag.specs.declared.offset.Way.{Way}
use Rattle.lead_lag.specs.declared.offset.Way.TheVariants.{Back, Ahead}
use Rattle.present.specs.Present.{at, ahead}
use Rattle.lead_lag.specs.Shift.{Proper, row_off, taken, shifted, Holding}
use Rattle.present.specs.Counting.{counted_row}
use Rattle.lead_lag.specs.Steps.{source_by}
use Rattle.present.proofs.Ahead.{ahead-same}
use Rattle.lead_lag.specs.Fronts.{taken_same}
use Rattle.lead_lag.proofs.Holds.{holds_on}
use Rattle.lead_lag.proofs.Calls.{source_seen}

module _ {V : Type 0} (c : Column V) where
  -- the window
  abbrev all : Window V
  all = record { begin = 0; rows = c }

  abbrev rows : List (Option V)
  rows = column_cells c

  taken_all : (d : Option V) (s : Option ℕ) → taken (view all) d s ≡ taken (at rows) d s
  taken_all d s = taken_same (view all) (at rows) d s (λ r q. view-all c r)

  -- by what is held
  pub held_answer : (way : Way) (ignoring : Bool) (d : Option V) (h : Held) (n i : ℕ) (s : Option ℕ) (x : Option V) → Proper way → length rows ≡ n → i < n → Holding way ignoring h rows i → s ≡ source_by way ignoring h (view all) i n → x ≡ taken (view all) d s → x ≡ shifted way ignoring d rows i
  held_answer way ignoring d h n i s x p e l a q r = r ∙ taken_all d s ∙ ap (taken (at rows) d) (q ∙ source_seen way ignoring h rows rows (view all) i n p a l e (record { shorter = omega arith; same = λ k u. refl }) (λ k u v. view-all c k))

  pub held_on : (m : ℕ) (h h' : Held) (i : ℕ) → 0 < m → Holding (Back m) true h rows i → h' ≡ counted_row m h (view all) i (i + 1) → Holding (Back m) true h' rows (i + 1)
  held_on m h h' i p a e = subst (λ (x : Held). Holding (Back m) true x rows (i + 1)) (sym e) (holds_on m h rows i (view all) p a (λ k u v. view-all c k))

  -- looking ahead, ignoring NULLs
  pub ahead_answer : (m : ℕ) (d : Option V) (n i : ℕ) (s : Option ℕ) (x : Option V) → n ≡ length rows → s ≡ slice_get (ahead (view all) (i + 1) (n - (i + 1))) (m - 1) → x ≡ taken (view all) d s → x ≡ shifted (Ahead m) true d rows i
  ahead_answer m d n i s x e p q =
      let a : ahead (view all) (i + 1) (n - (i + 1)) ≡ ahead (at rows) (i + 1) (n - (i + 1)) = ahead-same (view all) (at rows) (i + 1) (n - (i + 1)) (λ k u v. view-all c k) in
      q ∙ taken_all d s ∙ ap (taken (at rows) d) (p ∙ ap (λ (ys : List ℕ). slice_get ys (m - 1)) (a ∙ ap (λ (k : ℕ). ahead (at rows) (i + 1) (k - (i + 1))) e))

  -- NULLs as rows
  pub off_answer : (way : Way) (d : Option V) (n i : ℕ) (s : Option ℕ) (x : Option V) → n ≡ length rows → s ≡ row_off way n i → x ≡ taken (view all) d s → x ≡ shifted way false d rows i
  off_answer way d n i s x e p q = q ∙ taken_all d s ∙ ap (taken (at rows) d) (p ∙ ap (λ (k : ℕ). row_off way k i) e)
