-- How a call from C ends.
use Rattle.std.specs.Prelude.{◌≡◌, ◌⊎◌, Some, None, Err, Option}
use Rattle.wire.specs.declared.stop.Stop.{Stop}
use Rattle.wire.specs.declared.stop.Stop.TheVariants.{Memory}
use Rattle.wire.specs.declared.stop.Told.{Told}
use Rattle.wire.specs.Stops.{told}

-- by what stops it, with all lists as they were; else as `good` says
abbrev pub EndsBy : {R S : Type 0} → (Stop → R) → Option Stop → S → S → R → Type 0 → Type 0
EndsBy error (Some s) before after r good = (r ≡ error s) × (after ≡ before)
EndsBy error None before after r good = good

-- the same, unless there is no memory
abbrev pub Ends : {R S : Type 0} → (Stop → R) → Option Stop → S → S → R → Type 0 → Type 0
Ends error stop before after r good = ((r ≡ error Memory) × (after ≡ before)) ⊎ EndsBy error stop before after r good

-- what C is told of a stop
abbrev pub told_stop : Stop → Told
told_stop s = told (Err s)
