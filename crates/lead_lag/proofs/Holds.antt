-- What is held, one row on.
use Rattle.std.specs.Prelude.{◌≡◌, ℕ, ◌+◌, ◌<◌, ◌≤◌, Bool, true, false, List, Option, refl}
use Rattle.std.proofs.Common.{arith}
use Rattle.std.proofs.lemmas.Bool.Decides.{nat_tests}
use Rattle.present.specs.declared.held.Held.{Held}
use Rattle.lead_lag.specs.declared.offset.Way.{Way}
use Rattle.lead_lag.specs.declared.offset.Way.TheVariants.{Own, Back, Ahead}
use Rattle.present.specs.Present.{at}
use Rattle.present.specs.Counting.{start, Counting, counted_row}
use Rattle.present.proofs.Counting.{start_counts, counted-mark, mark_low, counts_next, mark_grows}
use Rattle.lead_lag.specs.Shift.{Proper, source_row, mark_of, Holding}
use Rattle.lead_lag.specs.Steps.{held_after}

-- nothing is held at row 0
pub fresh_holds : {V : Type 0} (way : Way) (ignoring : Bool) (rows : List (Option V)) → Holding way ignoring start rows 0
fresh_holds Own ignoring rows = record { next_row = refl; mark = refl; counts = tt }
fresh_holds (Ahead m) false rows = record { next_row = refl; mark = refl; counts = tt }
fresh_holds (Ahead m) true rows = record { next_row = refl; mark = refl; counts = tt }
fresh_holds (Back m) false rows = record { next_row = refl; mark = refl; counts = tt }
fresh_holds (Back m) true rows = record { next_row = refl; mark = grind (arith, nat_tests); counts = start_counts m rows }

-- the mark lies at or before the row
pub mark_below : {V : Type 0} (way : Way) (ignoring : Bool) (h : Held) (rows : List (Option V)) (i : ℕ) → Proper way → Holding way ignoring h rows i → mark_of way ignoring h ≤ i
mark_below Own ignoring h rows i p d = omega (arith, d.next_row)
mark_below (Ahead m) ignoring h rows i p d = omega (arith, d.next_row)
mark_below (Back m) false h rows i p d = omega (arith, d.next_row)
mark_below (Back m) true h rows i p d = mark_low m h rows i p d.counts

-- one row on, by a window that shows the rows from the mark to row i
pub holds_on : {V : Type 0} (m : ℕ) (h : Held) (rows : List (Option V)) (i : ℕ) (f : ℕ → Option V) → 0 < m → Holding (Back m) true h rows i → ((k : ℕ) → mark_of (Back m) true h ≤ k → k ≤ i → f k ≡ at rows k) → Holding (Back m) true (counted_row m h f i (i + 1)) rows (i + 1)
holds_on m h rows i f p d agree =
    let c : Counting m (counted_row m h f i (i + 1)) rows (i + 1) = counts_next m h rows i f p d.counts agree in
    record {
      next_row = omega (arith, d.next_row);
      mark = counted-mark m (counted_row m h f i (i + 1)) rows (i + 1) p c;
      counts = c;
    }

-- one row on, whatever the way, with the row's source row
pub holds_after : {V : Type 0} (way : Way) (ignoring : Bool) (h : Held) (rows : List (Option V)) (i : ℕ) (f : ℕ → Option V) (s : Option ℕ) → Proper way → Holding way ignoring h rows i → ((k : ℕ) → mark_of way ignoring h ≤ k → k ≤ i → f k ≡ at rows k) → s ≡ source_row way ignoring rows i → Holding way ignoring (held_after way ignoring h f i (i + 1) s) rows (i + 1)
holds_after Own ignoring h rows i f s p d agree is = record { next_row = omega (arith, d.next_row); mark = omega (arith, d.next_row); counts = tt }
holds_after (Back m) false h rows i f s p d agree is = record { next_row = omega (arith, d.next_row); mark = omega (arith, d.next_row); counts = tt }
holds_after (Back m) true h rows i f s p d agree is = holds_on m h rows i f p d agree
holds_after (Ahead m) false h rows i f s p d agree is = record { next_row = omega (arith, d.next_row); mark = omega (arith, d.next_row); counts = tt }
holds_after (Ahead m) true h rows i f s p d agree is = record { next_row = omega (arith, d.next_row); mark = omega (arith, d.next_row); counts = is }

-- the mark never falls, whatever is shown
pub mark_rises : {V : Type 0} (way : Way) (ignoring : Bool) (h : Held) (f : ℕ → Option V) (i n : ℕ) (s : Option ℕ) → mark_of way ignoring h ≤ mark_of way ignoring (held_after way ignoring h f i n s)
mark_rises Own ignoring h f i n s = omega arith
mark_rises (Back m) false h f i n s = omega arith
mark_rises (Back m) true h f i n s = mark_grows m h f i n
mark_rises (Ahead m) false h f i n s = omega arith
mark_rises (Ahead m) true h f i n s = omega arith
