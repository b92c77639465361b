-- The sign of an offset: LAG or LEAD, reversed or not.
use Rattle.std.specs.Prelude.{zero, suc, Bool, true, false, ℤ, pos, negsuc, Some, None, Option}
use Rattle.evaluator.specs.Arguments.{opposite}
use Rattle.lead_lag.specs.declared.offset.WindowShiftKind.{WindowShiftKind}
use Rattle.lead_lag.specs.declared.offset.WindowShiftKind.TheVariants.{Lag, Lead}
use Rattle.lead_lag.specs.declared.offset.Way.{Way}
use Rattle.lead_lag.specs.declared.offset.Way.TheVariants.{Own, Back, Ahead}

-- LAG's offset is the argument, or 1 if it is missing; LEAD's its negative, or -1
abbrev pub kind_offset : WindowShiftKind → Option ℤ → ℤ
kind_offset Lag None = pos 1
kind_offset Lag (Some v) = v
kind_offset Lead None = negsuc 0
kind_offset Lead (Some v) = opposite v

-- reversed, it is negated once more
abbrev pub signed_offset : WindowShiftKind → Option ℤ → Bool → ℤ
signed_offset kind value false = kind_offset kind value
signed_offset kind value true = opposite (kind_offset kind value)

-- where an offset looks, and how far: a positive one back, a negative one ahead
abbrev pub way_of : ℤ → Way
way_of (pos zero) = Own
way_of (pos (suc n)) = Back (suc n)
way_of (negsuc n) = Ahead (suc n)
