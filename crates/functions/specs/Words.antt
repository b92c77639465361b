-- The words of functions and their arguments.
use Rattle.std.specs.Prelude.{ℕ, ◌<◌, ◌^◌, ⊤, List, [], ◌++◌, codes, decimal, FitsSigned}
use Rattle.std.specs.Fmt.{signed_decimal}
use Rattle.std.specs.Int.{w64}
use Rattle.evaluator.specs.declared.utils.Argument.{Argument}
use Rattle.evaluator.specs.declared.utils.Argument.TheVariants.{Missing, Null, Signed, Unsigned, NotInteger}
use Rattle.lead_lag.specs.declared.offset.WindowShiftKind.{WindowShiftKind}
use Rattle.lead_lag.specs.declared.offset.WindowShiftKind.TheVariants as shift
use Rattle.rank.specs.declared.rank.RankType.{RankType}
use Rattle.rank.specs.declared.rank.RankType.TheVariants as rank
use Rattle.lines.specs.Fits.{CellFits}
use Rattle.lines.specs.Texts.{cell_text, mark_text}
use Rattle.functions.specs.declared.frames.FrameRow.{FrameRow}
use Rattle.functions.specs.declared.frames.FrameRow.TheVariants as row
use Rattle.functions.specs.declared.frames.Frames.{Frames}
use Rattle.functions.specs.declared.function.Function.{Function}
use Rattle.functions.specs.declared.function.Function.TheVariants as function
use Rattle.functions.specs.declared.name.Name.{Name}
use Rattle.functions.specs.declared.name.Name.TheVariants.{Lag, Lead, First, Last, Nth, Rank, DenseRank, RowNumber, PercentRank, CumeDist}
use Rattle.functions.specs.declared.shift.Shift.{Shift}
use Rattle.functions.specs.Names.{name_text}

-- an argument
abbrev pub argument_text : Argument → List ℕ
argument_text Missing = codes "missing"
argument_text Null = codes "null"
argument_text (Signed v) = codes "s" ++ signed_decimal v
argument_text (Unsigned v) = codes "u" ++ decimal v
argument_text NotInteger = codes "noint"

-- its number is in its range
abbrev pub ArgumentFits : Argument → Type 0
ArgumentFits Missing = ⊤
ArgumentFits Null = ⊤
ArgumentFits (Signed v) = FitsSigned w64 v
ArgumentFits (Unsigned v) = v < 2 ^ 64
ArgumentFits NotInteger = ⊤

-- the arguments of LAG and LEAD, each behind a colon
abbrev pub shift_text : {V : Type 0} → (V → List ℕ) → Shift V → List ℕ
shift_text value_text s = codes ":" ++ (argument_text s.offset ++ (codes ":" ++ (mark_text s.reversed ++ (codes ":" ++ (mark_text s.ignore_nulls ++ (codes ":" ++ cell_text value_text s.default))))))

-- those of FIRST and LAST, and those of NTH
abbrev pub ignoring_text : Frames → List ℕ
ignoring_text f = codes ":" ++ mark_text f.ignore_nulls

abbrev pub frames_text : FrameRow → Frames → List ℕ
frames_text row.First f = ignoring_text f
frames_text row.Last f = ignoring_text f
frames_text (row.Nth n) f = codes ":" ++ (argument_text n ++ ignoring_text f)

abbrev pub shift_name : WindowShiftKind → Name
shift_name shift.Lag = Lag
shift_name shift.Lead = Lead

abbrev pub frames_name : FrameRow → Name
frames_name row.First = First
frames_name row.Last = Last
frames_name (row.Nth n) = Nth

abbrev pub rank_name : RankType → Name
rank_name rank.Basic = Rank
rank_name rank.Dense = DenseRank

-- the name of a function
abbrev pub name_of : {V : Type 0} → Function V → Name
name_of (function.Shift s) = shift_name s.kind
name_of (function.Frames f) = frames_name f.row
name_of (function.Rank r) = rank_name r
name_of function.RowNumber = RowNumber
name_of function.PercentRank = PercentRank
name_of function.CumeDist = CumeDist

-- what stands behind it
abbrev pub arguments_text : {V : Type 0} → (V → List ℕ) → Function V → List ℕ
arguments_text value_text (function.Shift s) = shift_text value_text s
arguments_text value_text (function.Frames f) = frames_text f.row f
arguments_text value_text (function.Rank r) = []
arguments_text value_text function.RowNumber = []
arguments_text value_text function.PercentRank = []
arguments_text value_text function.CumeDist = []

-- a function with its arguments
abbrev pub function_text : {V : Type 0} → (V → List ℕ) → Function V → List ℕ
function_text value_text f = name_text (name_of f) ++ arguments_text value_text f

abbrev pub ShiftFits : {V : Type 0} → (V → Type 0) → Shift V → Type 0
ShiftFits ValueFits s = ArgumentFits s.offset × CellFits ValueFits s.default

abbrev pub RowFits : FrameRow → Type 0
RowFits row.First = ⊤
RowFits row.Last = ⊤
RowFits (row.Nth n) = ArgumentFits n

-- the arguments are in their ranges
abbrev pub FunctionFits : {V : Type 0} → (V → Type 0) → Function V → Type 0
FunctionFits ValueFits (function.Shift s) = ShiftFits ValueFits s
FunctionFits ValueFits (function.Frames f) = RowFits f.row
FunctionFits ValueFits (function.Rank r) = ⊤
FunctionFits ValueFits function.RowNumber = ⊤
FunctionFits ValueFits function.PercentRank = ⊤
FunctionFits ValueFits function.CumeDist = ⊤
