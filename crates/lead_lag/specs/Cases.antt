-- Worked cases, with the default 0.
use Rattle.std.specs.Prelude.{◌≡◌, ℕ, Bool, true, false, List, [], ◌∷◌, map, take, pos, Some, None, Option}
use Rattle.lead_lag.specs.declared.offset.WindowShiftKind.{WindowShiftKind}
use Rattle.lead_lag.specs.declared.offset.WindowShiftKind.TheVariants.{Lag, Lead}
use Rattle.lead_lag.specs.Offset.{way_of, signed_offset}
use Rattle.lead_lag.specs.Shift.{shifted, shift_settled}

-- 5, NULL, 7, NULL, NULL, 9
abbrev pub column_a : List (Option ℕ)
column_a = Some 5 ∷ None ∷ Some 7 ∷ None ∷ None ∷ Some 9 ∷ []

-- 10, 11, 12, 13, NULL, 15
abbrev pub column_b : List (Option ℕ)
column_b = Some 10 ∷ Some 11 ∷ Some 12 ∷ Some 13 ∷ None ∷ Some 15 ∷ []

-- six present cells
abbrev pub six : ℕ → ℕ → ℕ → ℕ → ℕ → ℕ → List (Option ℕ)
six a b c d e f = Some a ∷ Some b ∷ Some c ∷ Some d ∷ Some e ∷ Some f ∷ []

-- the answers of six rows: LAG or LEAD, by an offset of so many rows, ignoring NULLs or not
abbrev pub answers : WindowShiftKind → ℕ → Bool → List (Option ℕ) → List (Option ℕ)
answers kind n ignoring rows = map (shifted (way_of (signed_offset kind (Some (pos n)) false)) ignoring (Some 0) rows) (0 ∷ 1 ∷ 2 ∷ 3 ∷ 4 ∷ 5 ∷ [])

-- the cases
pub record Cases : Type 0 where
  pub lag_1_ignoring : answers Lag 1 true column_a ≡ six 0 5 5 7 7 7
  pub lag_2_ignoring : answers Lag 2 true column_a ≡ six 0 0 0 5 5 5
  pub lag_1_respecting : answers Lag 1 false column_a ≡ Some 0 ∷ Some 5 ∷ None ∷ Some 7 ∷ None ∷ None ∷ []
  pub lead_1_ignoring : answers Lead 1 true column_a ≡ six 7 7 9 9 9 0
  -- row by row its row 0 is too early while two rows are shown, and settled by three
  pub lead_1_early : shift_settled (way_of (signed_offset Lead (Some (pos 1)) false)) true (take 2 column_a) false 0 ≡ false
  pub lead_1_timely : shift_settled (way_of (signed_offset Lead (Some (pos 1)) false)) true (take 3 column_a) false 0 ≡ true
  pub lead_2_ignoring : answers Lead 2 true column_b ≡ six 12 13 15 0 0 0
  pub lag_0_ignoring : answers Lag 0 true column_a ≡ column_a
  pub lag_0_respecting : answers Lag 0 false column_a ≡ column_a
