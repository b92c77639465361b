-- What a run is shown that answers a partition row by row.
use Rattle.std.specs.Prelude.{◌≡◌, ℕ, ◌-◌, ◌*◌, ◌<◌, min, max, Bool, List, length, nat_lt, slice_index_or}
use Rattle.std.specs.List.{position}
use Rattle.std.specs.Option.{is_none}
use Rattle.partition.specs.Table.{Frame}
use Rattle.evaluator.specs.Meaning.{Partition, Meaning}
use Rattle.run.specs.Shown.{based}
use Rattle.replay.specs.History.{Marked}

-- the row after the last of those that are shown after so many steps
abbrev pub reached : ℕ → ℕ → ℕ → ℕ
reached n step steps = min (steps * max step 1) n

-- whether a frame begins past row 0
abbrev pub begins_late : Frame → Bool
begins_late f = nat_lt 0 f.0

-- whether none does
abbrev pub from_zero : List Frame → Bool
from_zero fs = is_none (position begins_late fs)

-- row i was shown from the keep mark on, that of an evaluator of the same meaning that stands at the row, up to a whole number of steps
pub record ShownAt {V A S : Type 0} (meaning : S → Meaning V A) (d : S) (p : Partition V) (z : Bool) (step i : ℕ) (w : Frame) : Type 0 where
  pub mark : ℕ
  pub marked : Marked meaning d (based z p) i mark
  pub begins : w.0 ≡ min mark w.1
  pub steps : ℕ
  pub ends : w.1 ≡ reached (length p.rows) step steps

-- each row was shown so, and each step was taken where the next row was too early
pub record ShownAll {V A S : Type 0} (meaning : S → Meaning V A) (d : S) (p : Partition V) (z : Bool) (step : ℕ) (shown : List Frame) (too_early : ℕ) : Type 0 where
  pub as_many : length shown ≡ length p.rows
  pub each : (i : ℕ) → i < length p.rows → ShownAt meaning d p z step i (slice_index_or shown i (0, 0))
  pub last : (slice_index_or shown (length p.rows - 1) (0, 0)).1 ≡ reached (length p.rows) step too_early
