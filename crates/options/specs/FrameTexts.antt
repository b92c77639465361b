-- The texts of frames, in SQL's words. Assumes nothing.
use Rattle.std.specs.Prelude.{◌≡◌, ℕ, ◌+◌, ◌<◌, ◌^◌, ◌≤◌, ◌⊎◌, List, codes, vec_len}
use Rattle.std.specs.Str.Parse.{IsNumeral, digits_value, without_leading_plus}
use Rattle.options.specs.declared.frame.Bound.{Bound}
use Rattle.options.specs.declared.frame.Bound.TheVariants.{UnboundedPreceding, Preceding, CurrentRow, Following, UnboundedFollowing}
use Rattle.options.specs.declared.frame.RowsFrame.{RowsFrame}
use Rattle.options.specs.declared.frame_text.FrameFault.{FrameFault}
use Rattle.options.specs.declared.frame_text.FrameError.{FrameError}
use Rattle.options.specs.declared.frame_text.FrameError.TheVariants as error
use Rattle.options.specs.declared.frame_text.FrameProblem.{FrameProblem}
use Rattle.options.specs.declared.frame_text.FrameProblem.TheVariants.{NoRows, NoBound, NoSide, NoRow, NoAnd, WordBehind, StartsLast, EndsFirst, StartBehindEnd}
use Rattle.options.specs.declared.words.Words.{Words}
use Rattle.options.specs.Words.{Cut, Is, column_at, word_at}

-- digits, whose value fits 64 bits
abbrev pub Count : List ℕ → Type 0
Count bs = IsNumeral 10 (without_leading_plus bs) × (digits_value 10 (without_leading_plus bs) < 2 ^ 64)

-- a count, and the number that it is
abbrev pub Counts : List ℕ → ℕ → Type 0
Counts bs k = Count bs × (k ≡ digits_value 10 (without_leading_plus bs))

-- the two words of a bound
abbrev pub IsBound : List ℕ → List ℕ → Bound → Type 0
IsBound one two UnboundedPreceding = Is (codes "unbounded") one × Is (codes "preceding") two
IsBound one two (Preceding k) = Counts one k × Is (codes "preceding") two
IsBound one two CurrentRow = Is (codes "current") one × Is (codes "row") two
IsBound one two (Following k) = Counts one k × Is (codes "following") two
IsBound one two UnboundedFollowing = Is (codes "unbounded") one × Is (codes "following") two

-- the text begins a bound that goes on with PRECEDING or FOLLOWING
abbrev pub Sided : List ℕ → Type 0
Sided one = Is (codes "unbounded") one ⊎ Count one

-- the first of the two words from k on that begins no bound, or does not go on with it
abbrev pub BoundFault : Words → ℕ → FrameFault → Type 0
BoundFault ws k f = BoundProblem f.problem
  where
    first : List ℕ
    first = word_at ws k

    second : List ℕ
    second = word_at ws (k + 1)

    BoundProblem : FrameProblem → Type 0
    BoundProblem NoBound = (f.column ≡ column_at ws k) × ¬ (Is (codes "current") first) × ¬ (Sided first)
    BoundProblem NoRow = (f.column ≡ column_at ws (k + 1)) × Is (codes "current") first × ¬ (Is (codes "row") second)
    BoundProblem NoSide = (f.column ≡ column_at ws (k + 1)) × Sided first × ¬ (Is (codes "preceding") second) × ¬ (Is (codes "following") second)
    BoundProblem NoRows = ⊥
    BoundProblem NoAnd = ⊥
    BoundProblem WordBehind = ⊥
    BoundProblem StartsLast = ⊥
    BoundProblem EndsFirst = ⊥
    BoundProblem StartBehindEnd = ⊥

-- a word stands at k, where the frame has ended
abbrev pub Behind : Words → ℕ → FrameFault → Type 0
Behind ws k f = (k < vec_len ws.list) × (f ≡ record { column = column_at ws k; problem = WordBehind })

-- `rows between BOUND and BOUND`, from the third word on
pub record Between (ws : Words) (f : RowsFrame) : Type 0 where
  pub start : IsBound (word_at ws 2) (word_at ws 3) f.start
  pub joined : Is (codes "and") (word_at ws 4)
  pub end : IsBound (word_at ws 5) (word_at ws 6) f.end
  pub last : vec_len ws.list ≤ 7

-- `rows BOUND`, from the second word on: the frame ends at the current row
pub record Short (ws : Words) (f : RowsFrame) : Type 0 where
  pub start : IsBound (word_at ws 1) (word_at ws 2) f.start
  pub end : f.end ≡ CurrentRow
  pub last : vec_len ws.list ≤ 3

-- the words of a frame
abbrev pub IsFrame : Words → RowsFrame → Type 0
IsFrame ws f = Is (codes "rows") (word_at ws 0) × ((Is (codes "between") (word_at ws 1) × Between ws f) ⊎ Short ws f)

-- the bounds in their order, from the partition's first row to its last
abbrev pub side : Bound → ℕ
side UnboundedPreceding = 0
side (Preceding k) = 1
side CurrentRow = 2
side (Following k) = 3
side UnboundedFollowing = 4

-- the frames that SQL allows
pub record Allowed (f : RowsFrame) : Type 0 where
  pub start : side f.start < 4
  pub end : 0 < side f.end
  pub order : side f.start ≤ side f.end

-- what SQL refuses of a frame whose bounds stand at words s and e
abbrev pub NotAllowed : Words → ℕ → ℕ → RowsFrame → FrameFault → Type 0
NotAllowed ws s e g f = ((side g.start ≡ 4) × (f ≡ record { column = column_at ws s; problem = StartsLast }))
    ⊎ (((side g.start < 4) × (side g.end ≡ 0) × (f ≡ record { column = column_at ws e; problem = EndsFirst }))
    ⊎ ((side g.start < 4) × (0 < side g.end) × (side g.end < side g.start) × (f ≡ record { column = column_at ws e; problem = StartBehindEnd })))

-- a bound stands at words k and k + 1
abbrev pub Bounded : Words → ℕ → Type 0
Bounded ws k = (b : Bound) × IsBound (word_at ws k) (word_at ws (k + 1)) b

-- where `rows between BOUND and BOUND` stops from the third word on: at a bound, at AND, behind the frame, or at what SQL refuses
abbrev pub NotBetween : Words → FrameFault → Type 0
NotBetween ws f = BoundFault ws 2 f
    ⊎ ((Bounded ws 2 × ¬ (Is (codes "and") (word_at ws 4)) × (f ≡ record { column = column_at ws 4; problem = NoAnd }))
    ⊎ ((Bounded ws 2 × Is (codes "and") (word_at ws 4) × BoundFault ws 5 f)
    ⊎ ((Bounded ws 2 × Is (codes "and") (word_at ws 4) × Bounded ws 5 × Behind ws 7 f)
    ⊎ ((g : RowsFrame) × Between ws g × NotAllowed ws 2 5 g f))))

-- where `rows BOUND` stops from the second word on
abbrev pub NotShort : Words → FrameFault → Type 0
NotShort ws f = BoundFault ws 1 f ⊎ ((Bounded ws 1 × Behind ws 3 f) ⊎ ((g : RowsFrame) × Short ws g × NotAllowed ws 1 1 g f))

-- where words that are no frame stop, or what SQL refuses of them
abbrev pub NotFrame : Words → FrameFault → Type 0
NotFrame ws f = (¬ (Is (codes "rows") (word_at ws 0)) × (f ≡ record { column = column_at ws 0; problem = NoRows }))
    ⊎ ((Is (codes "rows") (word_at ws 0) × Is (codes "between") (word_at ws 1) × NotBetween ws f)
    ⊎ (Is (codes "rows") (word_at ws 0) × ¬ (Is (codes "between") (word_at ws 1)) × NotShort ws f))

-- the text stands for the frame: its words are those of the frame, and SQL allows it
pub record Stands (text : List ℕ) (f : RowsFrame) : Type 0 where
  pub words : Words
  pub cut : Cut text words
  pub says : IsFrame words f
  pub allowed : Allowed f

-- the words of a text that stands for no frame stop at the fault
pub record Stops (text : List ℕ) (f : FrameFault) : Type 0 where
  pub words : Words
  pub cut : Cut text words
  pub stop : NotFrame words f

-- why a text gives no frame
abbrev pub Refused : List ℕ → FrameError → Type 0
Refused text error.Memory = Unit {0}
Refused text (error.At f) = Stops text f
