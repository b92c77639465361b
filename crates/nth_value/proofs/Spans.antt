-- The row counted to among all rows of a frame, from either end.
use Rattle.std.proofs.Common.{◌≡◌, ℕ, ◌+◌, ◌-◌, ◌<◌, ◌≤◌, max, true, false, ◌&&◌, cond, ltb, leb, List, reverse, length, Some, None, sym, ap, ◌∙◌, ⊎_elim, arith}
use Rattle.std.specs.List.{slice_get, range_with_len}
use Rattle.std.proofs.lemmas.Bool.{cases_lt, cond-true, cond-false, lt-ltb, le-ltb}
use Rattle.std.proofs.lemmas.Bool.Decides.{nat_tests}
use Rattle.std.proofs.lemmas.List.{length-reverse, get_or-reverse}
use Rattle.std.proofs.lemmas.List.FromFn.{length-range_with_len, get_or-range_with_len}
use Rattle.std.proofs.lemmas.Option.{slice_get-get_or, slice_get_past}

module _ (s e j : ℕ) where
  abbrev rows : List ℕ
  rows = range_with_len s (e - s)

  long : length rows ≡ e - s
  long = length-range_with_len s (e - s)

  -- once it is known whether the frame has so many
  pub start_in : j < e - s → slice_get rows j ≡ Some (s + j)
  start_in h = slice_get-get_or rows j 0 (omega (arith, long)) ∙ ap Some (get_or-range_with_len s (e - s) j 0 h)

  pub start_out : e - s ≤ j → slice_get rows j ≡ None
  start_out h = slice_get_past rows j (omega (arith, long))

  pub end_in : j < e - s → slice_get (reverse rows) j ≡ Some (e - 1 - j)
  end_in h =
      let k : s + (length rows - 1 - j) ≡ e - 1 - j = omega (arith, long) in
      slice_get-get_or (reverse rows) j 0 (omega (arith, long, length-reverse rows)) ∙ ap Some (get_or-reverse rows j 0 (omega (arith, long)) ∙ get_or-range_with_len s (e - s) (length rows - 1 - j) 0 (omega (arith, long)) ∙ k)

  pub end_out : e - s ≤ j → slice_get (reverse rows) j ≡ None
  end_out h = slice_get_past (reverse rows) j (omega (arith, long, length-reverse rows))

-- by a test of the row
pub from_start : (s e m : ℕ) → cond (ltb (s + (m - 1)) e) (Some (s + (m - 1))) None ≡ slice_get (range_with_len s (e - s)) (m - 1)
from_start s e m = ⊎_elim
    (λ lt. cond-true _ _ _ (lt-ltb (s + (m - 1)) e lt) ∙ sym (start_in s e (m - 1) (omega arith)))
    (λ ge. cond-false _ _ _ (le-ltb (s + (m - 1)) e ge) ∙ sym (start_out s e (m - 1) (omega arith)))
    (cases_lt (s + (m - 1)) e)

pub from_end : (s e m : ℕ) → cond (leb (max m 1) e && leb s (e - max m 1)) (Some (e - max m 1)) None ≡ slice_get (reverse (range_with_len s (e - s))) (m - 1)
from_end s e m = ⊎_elim
    (λ lt. let t : (leb (max m 1) e && leb s (e - max m 1)) ≡ true = grind (arith, nat_tests) in let r : e - max m 1 ≡ e - 1 - (m - 1) = omega arith in cond-true _ _ _ t ∙ (ap Some r ∙ sym (end_in s e (m - 1) lt)))
    (λ ge. let t : (leb (max m 1) e && leb s (e - max m 1)) ≡ false = grind (arith, nat_tests) in cond-false _ _ _ t ∙ sym (end_out s e (m - 1) ge))
    (cases_lt (m - 1) (e - s))
