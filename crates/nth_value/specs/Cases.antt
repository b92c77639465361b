-- Worked cases: frame (1, 4) of 5, NULL, 7, NULL, NULL, 9.
use Rattle.std.specs.Prelude.{◌≡◌, ℕ, Bool, true, false, List, [], ◌∷◌, ℤ, pos, negsuc, Some, None, Option}
use Rattle.present.specs.Present.{at}
use Rattle.nth_value.specs.declared.kind.NthValueKind.TheVariants.{First, Last, Nth}
use Rattle.nth_value.specs.Frames.{pick_of, value_in}

-- 5, NULL, 7, NULL, NULL, 9
abbrev pub column_a : List (Option ℕ)
column_a = Some 5 ∷ None ∷ Some 7 ∷ None ∷ None ∷ Some 9 ∷ []

-- NTH of frame (1, 4), ignoring NULLs or not
abbrev pub nth_of : ℤ → Bool → Option ℕ
nth_of n ignoring = value_in (pick_of (Nth n)) ignoring (at column_a) (1, 4)

-- the cases, so many
pub record Cases (count : ℕ) : Type 0 where
  pub counted : count ≡ 7
  pub nth_2 : nth_of (pos 2) false ≡ Some 7
  pub nth_2_ignoring : nth_of (pos 2) true ≡ None
  pub nth_from_end_ignoring : nth_of (negsuc 0) true ≡ Some 7
  pub nth_0 : nth_of (pos 0) false ≡ None
  pub first_ignoring : value_in (pick_of First) true (at column_a) (1, 4) ≡ Some 7
  pub last_respecting : value_in (pick_of Last) false (at column_a) (1, 4) ≡ None
  pub empty_frame : value_in (pick_of First) false (at column_a) (2, 2) ≡ None
