-- The names of functions, and the options that each takes. Assumes nothing.
use Rattle.std.specs.Prelude.{◌≡◌, ℕ, Bool, true, false, ◌||◌, not, List, codes, Result, MatchResult}
use Rattle.options.specs.declared.function.Function.{Function}
use Rattle.options.specs.declared.function.Function.TheVariants.{Lag, Lead, FirstValue, LastValue, NthValue, Rank, DenseRank, PercentRank, CumeDist, RowNumber}
use Rattle.options.specs.declared.function.UnknownFunction.{UnknownFunction}
use Rattle.options.specs.declared.key.Key.{Key}
use Rattle.options.specs.declared.key.Key.TheVariants.{Of, PartitionBy, OrderBy, Offset, N, Default, IgnoreNulls, Frame, Kind, As, ByRows, Quiet, Rows, Partition, File}

-- SQL's name of a function, in small letters
abbrev pub function_text : Function → List ℕ
function_text Lag = codes "lag"
function_text Lead = codes "lead"
function_text FirstValue = codes "first_value"
function_text LastValue = codes "last_value"
function_text NthValue = codes "nth_value"
function_text Rank = codes "rank"
function_text DenseRank = codes "dense_rank"
function_text PercentRank = codes "percent_rank"
function_text CumeDist = codes "cume_dist"
function_text RowNumber = codes "row_number"

-- r is the function that the word names, and an error where it names none
abbrev pub NamesFunction : List ℕ → Result Function UnknownFunction → Type 0
NamesFunction word r = MatchResult r (λ f. word ≡ function_text f) (λ _. (f : Function) → ¬ (word ≡ function_text f))

-- a function that shifts rows
abbrev pub is_shift : Function → Bool
is_shift Lag = true
is_shift Lead = true
is_shift FirstValue = false
is_shift LastValue = false
is_shift NthValue = false
is_shift Rank = false
is_shift DenseRank = false
is_shift PercentRank = false
is_shift CumeDist = false
is_shift RowNumber = false

-- a function over a row's frame
abbrev pub is_framed : Function → Bool
is_framed Lag = false
is_framed Lead = false
is_framed FirstValue = true
is_framed LastValue = true
is_framed NthValue = true
is_framed Rank = false
is_framed DenseRank = false
is_framed PercentRank = false
is_framed CumeDist = false
is_framed RowNumber = false

-- a function that answers values of a column
abbrev pub is_valued : Function → Bool
is_valued f = is_shift f || is_framed f

-- a function that counts n
abbrev pub is_nth : Function → Bool
is_nth NthValue = true
is_nth Lag = false
is_nth Lead = false
is_nth FirstValue = false
is_nth LastValue = false
is_nth Rank = false
is_nth DenseRank = false
is_nth PercentRank = false
is_nth CumeDist = false
is_nth RowNumber = false

-- a function that wants the whole partition, and cannot be answered row by row
abbrev pub is_whole : Function → Bool
is_whole PercentRank = true
is_whole CumeDist = true
is_whole Lag = false
is_whole Lead = false
is_whole FirstValue = false
is_whole LastValue = false
is_whole NthValue = false
is_whole Rank = false
is_whole DenseRank = false
is_whole RowNumber = false

-- the function takes the option, answered or drawn
abbrev pub takes : Function → Bool → Key → Bool
takes f drawn Of = is_valued f
takes f drawn Kind = is_valued f
takes f drawn IgnoreNulls = is_valued f
takes f drawn Offset = is_shift f
takes f drawn Default = is_shift f
takes f drawn N = is_nth f
takes f drawn Frame = is_framed f
takes f drawn ByRows = not (is_whole f)
takes f drawn PartitionBy = true
takes f drawn OrderBy = true
takes f drawn As = true
takes f drawn Quiet = true
takes f drawn File = true
takes f drawn Rows = drawn
takes f drawn Partition = drawn
