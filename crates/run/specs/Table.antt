-- Which check refuses a call on a run, and with which place: the first that fails, from the top.
use Rattle.std.specs.Prelude.{ℕ, ◌+◌, min, Bool, true, false, cond, not, ◌&&◌, ◌||◌, Some, None, Option, ◌==◌, nat_lt}
use Rattle.column.specs.declared.fault.Fault.{Fault}
use Rattle.column.specs.declared.fault.Fault.TheVariants.{Lengths, RowLimit, NoFrame, NoRowLeft, BeginsLate, PastTotal, BadFrame}
use Rattle.run.specs.declared.progress.Progress.{Progress}
use Rattle.partition.specs.Table.{Frame}
use Rattle.column.specs.Refusal.{row_limit}

-- no frame is handed over
abbrev pub absent : Option Frame → Bool
absent None = true
absent (Some f) = false

-- of a closed run, whether n is its total; the total of a run is `None` while it is open
abbrev pub is_total : Option ℕ → ℕ → Bool
is_total None n = false
is_total (Some t) n = n == t

-- of a closed run, whether n lies above its total
abbrev pub above_total : Option ℕ → ℕ → Bool
above_total None n = false
above_total (Some t) n = nat_lt t n

-- the highest row count known: the total of a closed run, else the limit
abbrev pub bound : Option ℕ → ℕ
bound None = row_limit
bound (Some t) = t

-- whether a frame that is there may not come next
abbrev pub unfit_frame : Progress → Option ℕ → Option Frame → Bool
unfit_frame b total None = false
unfit_frame b total (Some f) =
    nat_lt f.1 f.0 || (nat_lt (bound total) f.1 || (nat_lt f.0 b.last.0 || (nat_lt f.1 b.last.1 || (b.from_zero && nat_lt 0 f.0))))

-- the checks of a row request but the last: wants frames, the run's progress and total, its keep mark, the window's begin, the lengths of its values and marks, and the frame
abbrev pub refusal : Bool → Progress → Option ℕ → ℕ → ℕ → ℕ → ℕ → Option Frame → Option Fault
refusal wants b total mark begin values marks frame =
    cond (wants && absent frame) (Some (NoFrame b.next))
    (cond (is_total total b.next) (Some (NoRowLeft (bound total)))
    (cond (not (values == marks)) (Some (Lengths (min values marks)))
    (cond (nat_lt row_limit (begin + values)) (Some (RowLimit row_limit))
    (cond (nat_lt mark begin) (Some (BeginsLate mark))
    (cond (above_total total (begin + values)) (Some (PastTotal (bound total)))
    (cond (wants && unfit_frame b total frame) (Some (BadFrame b.next))
    None))))))

-- whether a total may not close a run
abbrev pub unfit_total : Progress → ℕ → Bool
unfit_total b n = nat_lt n b.next || (nat_lt n b.last.1 || nat_lt row_limit n)
