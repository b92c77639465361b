-- What options ask of a function. Assumes nothing.
use Rattle.std.specs.Prelude.{◌≡◌, ℕ, ◌<◌, ◌⊎◌, Bool, true, false, List, length, MatchOption, Option, vec_items, slice_index_or}
use Rattle.std.specs.Borrow.{Bor}
use Rattle.options.specs.declared.asked.Asked.{Asked}
use Rattle.options.specs.declared.asked.ValueKind.{ValueKind}
use Rattle.options.specs.declared.frame.RowsFrame.{RowsFrame}
use Rattle.options.specs.declared.function.Function.{Function}
use Rattle.options.specs.declared.given.Given.{Given}
use Rattle.options.specs.declared.key.Key.{Key}
use Rattle.options.specs.declared.key.Key.TheVariants.{Of, PartitionBy, OrderBy, Offset, N, Default, IgnoreNulls, As, Quiet}
use Rattle.options.specs.declared.misuse.Misuse.{Misuse}
use Rattle.options.specs.declared.misuse.Misuse.TheVariants as misuse
use Rattle.options.specs.Functions.{is_valued, takes}
use Rattle.options.specs.Given.{Absent, ValueIs}
use Rattle.options.specs.Values.{ArgumentIs, BadByRows, BadFrame, BadKind, ByRowsIs, ColumnsIs, FileGiven, FlagIs, FrameIs, KindIs}

-- the function takes each of the first n options
abbrev pub TakenBelow : Function → Bool → List Given → ℕ → Type 0
TakenBelow f drawn gs n = (k : ℕ) → k < n → (d : Given) → takes f drawn (slice_index_or gs k d).key ≡ true

-- the function takes each option
abbrev pub AllTaken : Function → Bool → List Given → Type 0
AllTaken f drawn gs = TakenBelow f drawn gs (length gs)

-- option k is the first that the function does not take
pub record Strays (f : Function) (drawn : Bool) (gs : List Given) (m : Misuse) : Type 0 where
  pub place : ℕ
  pub within : place < length gs
  pub before : TakenBelow f drawn gs place
  pub option : (d : Given) → m ≡ misuse.NotTaken f (slice_index_or gs place d).key
  pub refused : (d : Given) → takes f drawn (slice_index_or gs place d).key ≡ false

-- a function of values has its column
abbrev pub HasColumn : Function → List Given → Type 0
HasColumn f gs = is_valued f ≡ true → (text : Bor (List ℕ)) × ValueIs gs Of text

-- a function of values without its column
abbrev pub NoColumn : Function → List Given → Misuse → Type 0
NoColumn f gs m = (m ≡ misuse.Missing f Of) × (is_valued f ≡ true) × Absent gs Of

-- the text of an option, none where it is not given
abbrev pub TextIs : List Given → Key → Option (Bor (List ℕ)) → Type 0
TextIs gs key o = MatchOption o (Absent gs key) (ValueIs gs key)

-- what is asked, option by option
pub record Asks (f : Function) (drawn : Bool) (gs : List Given) (a : Asked) : Type 0 where
  pub function : a.function ≡ f
  pub taken : AllTaken f drawn gs
  pub has : HasColumn f gs
  pub of_column : TextIs gs Of a.of
  pub partition_by : ColumnsIs gs PartitionBy (vec_items a.partition_by)
  pub order_by : ColumnsIs gs OrderBy (vec_items a.order_by)
  pub offset : ArgumentIs gs Offset a.offset
  pub n : ArgumentIs gs N a.n
  pub default_text : TextIs gs Default a.default
  pub ignore_nulls : FlagIs gs IgnoreNulls a.ignore_nulls
  pub frame : FrameIs gs a.frame
  pub kind : KindIs gs a.kind
  pub as_name : TextIs gs As a.as_name
  pub by_rows : ByRowsIs gs a.by_rows
  pub quiet : FlagIs gs Quiet a.quiet
  pub file : FileGiven gs a.file

-- a frame, or a kind, that can be read
abbrev pub FrameRead : List Given → Type 0
FrameRead gs = (o : Option RowsFrame) × FrameIs gs o

abbrev pub KindRead : List Given → Type 0
KindRead gs = (k : ValueKind) × KindIs gs k

-- what is wrong with options, by the first check that fails: each is taken, the column is there, then the values of frame, kind and rows
abbrev pub NotAsked : Function → Bool → List Given → Misuse → Type 0
NotAsked f drawn gs m = (m ≡ misuse.Memory)
    ⊎ (Strays f drawn gs m
    ⊎ ((AllTaken f drawn gs × NoColumn f gs m)
    ⊎ ((AllTaken f drawn gs × HasColumn f gs × BadFrame gs m)
    ⊎ ((AllTaken f drawn gs × HasColumn f gs × FrameRead gs × BadKind gs m)
    ⊎ (AllTaken f drawn gs × HasColumn f gs × FrameRead gs × KindRead gs × BadByRows gs m)))))
