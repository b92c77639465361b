-- Functions as C describes them.
use Rattle.std.specs.Prelude.{ℕ, Bool, List, [], ◌∷◌, position, cond, ◌||◌, ◌==◌, nat_lt, Ok, Err, Option, Result}
use Rattle.std.specs.Bool.{then_some}
use Rattle.column.specs.declared.fault.Fault.{Fault}
use Rattle.evaluator.specs.declared.utils.Argument.{Argument}
use Rattle.evaluator.specs.declared.utils.Argument.TheVariants.{Missing, Null, Signed, Unsigned, NotInteger}
use Rattle.lead_lag.specs.declared.WindowShift.{WindowShift}
use Rattle.lead_lag.specs.declared.offset.WindowShiftKind.{WindowShiftKind}
use Rattle.lead_lag.specs.declared.offset.WindowShiftKind.TheVariants.{Lag, Lead}
use Rattle.lead_lag.specs.Shift as shifts
use Rattle.nth_value.specs.declared.NthValue.{NthValue}
use Rattle.nth_value.specs.declared.kind.NthValueKind.TheVariants.{First, Last}
use Rattle.nth_value.specs.Nth as nths
use Rattle.wire.specs.declared.function.Function.{Function}
use Rattle.wire.specs.declared.function.Family.{Family}
use Rattle.wire.specs.declared.function.Chosen.{Chosen}
use Rattle.wire.specs.declared.function.Chosen.TheVariants.{Shift, Nth}
use Rattle.rank.specs.declared.rank.RankType.TheVariants.{Basic, Dense}
use Rattle.wire.specs.declared.function.Ranking.{Ranking}
use Rattle.wire.specs.declared.function.Ranking.TheVariants.{Rank, RowNumber}
use Rattle.wire.specs.declared.function.Fractional.{Fractional}
use Rattle.wire.specs.declared.function.Fractional.TheVariants.{PercentRank, CumeDist}

-- which fields stand for nothing in a family
abbrev pub field_flaws : Family → Function → List Bool
field_flaws a f =
    (nat_lt f.name a.first || nat_lt a.last f.name) ∷ nat_lt a.mirrors f.mirrored ∷ nat_lt 1 f.reversed ∷ nat_lt 1 f.ignore_nulls
    ∷ nat_lt 4 f.argument ∷ nat_lt 1 f.has_default ∷ nat_lt 1 f.from_zero ∷ nat_lt 1 f.finish ∷ []

-- the first of them
abbrev pub function_flaw : Family → Function → Option ℕ
function_flaw a f = position (λ flaw. flaw) (field_flaws a f)

-- the argument
abbrev pub argument_of : Function → Argument
argument_of f = cond (f.argument == 0) Missing (cond (f.argument == 1) Null (cond (f.argument == 2) (Signed f.signed) (cond (f.argument == 3) (Unsigned f.unsigned) NotInteger)))

-- LAG or LEAD
abbrev pub made_shift : {V : Type 0} → Result (WindowShift V) Fault → Result (Chosen V) Fault
made_shift (Ok e) = Ok (Shift e)
made_shift (Err f) = Err f

-- NTH_VALUE
abbrev pub made_nth : {V : Type 0} → Result (NthValue V) Fault → Result (Chosen V) Fault
made_nth (Ok e) = Ok (Nth e)
made_nth (Err f) = Err f

-- the evaluator of LAG or LEAD, with the default that is given
abbrev pub shift_of : {V : Type 0} → WindowShiftKind → Function → V → Result (Chosen V) Fault
shift_of kind f default = made_shift (shifts.making kind (argument_of f) (f.reversed == 1) (f.ignore_nulls == 1) (then_some (f.has_default == 1) default))

-- the evaluator of a function that is not mirrored, by its name
abbrev pub plain : {V : Type 0} → Function → V → Result (Chosen V) Fault
plain f default =
    cond (f.name == 0) (shift_of Lag f default)
    (cond (f.name == 1) (shift_of Lead f default)
    (cond (f.name == 2) (Ok (Nth (nths.new_of First (f.ignore_nulls == 1))))
    (cond (f.name == 3) (Ok (Nth (nths.new_of Last (f.ignore_nulls == 1))))
    (made_nth (nths.making (argument_of f) (f.ignore_nulls == 1))))))

-- an evaluator's mirror
abbrev pub mirror_of : {V : Type 0} → Chosen V → Chosen V
mirror_of (Shift e) = Shift (shifts.shift_mirrored e)
mirror_of (Nth e) = Nth (nths.nth_mirrored e)

-- the same where it is asked
abbrev pub mirrored_if : {V : Type 0} → Bool → Result (Chosen V) Fault → Result (Chosen V) Fault
mirrored_if mirrored (Ok e) = Ok (cond mirrored (mirror_of e) e)
mirrored_if mirrored (Err f) = Err f

-- the evaluator of a function, or the refusal of its argument
abbrev pub choosing : {V : Type 0} → Function → V → Result (Chosen V) Fault
choosing f default = mirrored_if (f.mirrored == 1) (plain f default)

-- the function of numbers by its name
abbrev pub ranking_of : Function → Ranking
ranking_of f = cond (f.name == 5) (Rank Basic) (cond (f.name == 6) (Rank Dense) RowNumber)

-- the function of fractions by its name
abbrev pub fractional_of : Function → Fractional
fractional_of f = cond (f.name == 8) PercentRank CumeDist
