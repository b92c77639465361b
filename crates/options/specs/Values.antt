-- The values of options. Assumes nothing.
use Rattle.std.specs.Prelude.{◌≡◌, ◌≢◌, ℕ, ◌<◌, ◌≤◌, ◌⊎◌, Bool, List, [], ◌++◌, map, length, codes, Option, None, FitsSigned, MatchBool, MatchOption, slice_index_or}
use Rattle.std.specs.Borrow.{Bor}
use Rattle.std.specs.Int.{w64}
use Rattle.std.specs.List.{join_with_byte}
use Rattle.std.specs.Str.Iter.{LacksByte}
use Rattle.std.specs.Str.Parse.{IsNumeral, signed_digits_value, without_leading_sign}
use Rattle.evaluator.specs.declared.utils.Argument.{Argument}
use Rattle.evaluator.specs.declared.utils.Argument.TheVariants.{Missing, Null, Signed, Unsigned, NotInteger}
use Rattle.options.specs.declared.asked.ValueKind.{ValueKind}
use Rattle.options.specs.declared.asked.ValueKind.TheVariants.{Instant}
use Rattle.options.specs.declared.command.Rows.{Rows}
use Rattle.options.specs.declared.frame.RowsFrame.{RowsFrame}
use Rattle.options.specs.declared.frame_text.FrameFault.{FrameFault}
use Rattle.options.specs.declared.given.Given.{Given}
use Rattle.options.specs.declared.key.Key.{Key}
use Rattle.options.specs.declared.key.Key.TheVariants.{Frame, Kind, ByRows, File, Rows as RowsKey}
use Rattle.options.specs.declared.misuse.Misuse.{Misuse}
use Rattle.options.specs.declared.misuse.Misuse.TheVariants as misuse
use Rattle.options.specs.FrameTexts.{Count, Counts, Stands, Stops}
use Rattle.options.specs.Given.{Absent, ValueIs}
use Rattle.options.specs.Kinds.{kind_text}
use Rattle.options.specs.Words.{Is}

-- the names of a text, with commas between them
pub record NamesColumns (text : List ℕ) (names : List (Bor (List ℕ))) : Type 0 where
  pub cut : text ≡ join_with_byte 44 (map (λ n. n.now) names)
  pub apart : (k : ℕ) (d : Bor (List ℕ)) → k < length names → LacksByte 44 (slice_index_or names k d).now

-- the columns that an option names
abbrev pub ColumnsIs : List Given → Key → List (Bor (List ℕ)) → Type 0
ColumnsIs gs key names = (Absent gs key × (names ≡ [])) ⊎ ((text : Bor (List ℕ)) × ValueIs gs key text × NamesColumns text.now names)

-- digits, perhaps after a sign, whose value fits 64 bits
abbrev pub Whole : List ℕ → Type 0
Whole bs = IsNumeral 10 (without_leading_sign bs) × FitsSigned w64 (signed_digits_value 10 bs)

-- NULL, a signed number, an unsigned one that is too large for that, or no integer
abbrev pub ReadsArgument : List ℕ → Argument → Type 0
ReadsArgument text Missing = ⊥
ReadsArgument text Null = Is (codes "null") text
ReadsArgument text (Signed v) = Whole text × (v ≡ signed_digits_value 10 text)
ReadsArgument text (Unsigned v) = ¬ (Whole text) × Counts text v
ReadsArgument text NotInteger = ¬ (Is (codes "null") text) × ¬ (Whole text) × ¬ (Count text)

-- the argument that an option gives
abbrev pub ArgumentIs : List Given → Key → Argument → Type 0
ArgumentIs gs key a = (Absent gs key × (a ≡ Missing)) ⊎ ((text : Bor (List ℕ)) × ValueIs gs key text × ReadsArgument text.now a)

-- true where the option is given
abbrev pub FlagIs : List Given → Key → Bool → Type 0
FlagIs gs key b = MatchBool b ((text : Bor (List ℕ)) × ValueIs gs key text) (Absent gs key)

-- the file of a word, none for standard input
abbrev pub FileIs : List ℕ → Option (Bor (List ℕ)) → Type 0
FileIs word o = MatchOption o (word ≡ codes "-") (λ f. (f.now ≡ word) × (word ≢ codes "-"))

-- the file that is given
abbrev pub FileGiven : List Given → Option (Bor (List ℕ)) → Type 0
FileGiven gs o = (Absent gs File × (o ≡ None)) ⊎ ((word : Bor (List ℕ)) × ValueIs gs File word × FileIs word.now o)

-- the kind that is given, instants where none is
abbrev pub KindIs : List Given → ValueKind → Type 0
KindIs gs k = (Absent gs Kind × (k ≡ Instant)) ⊎ ((word : Bor (List ℕ)) × ValueIs gs Kind word × (word.now ≡ kind_text k))

-- a kind that is given and unknown
abbrev pub BadKind : List Given → Misuse → Type 0
BadKind gs m = (word : Bor (List ℕ)) × ValueIs gs Kind word × (m ≡ misuse.UnknownKind word) × ((k : ValueKind) → ¬ (word.now ≡ kind_text k))

-- the frame that is given
abbrev pub FrameIs : List Given → Option RowsFrame → Type 0
FrameIs gs o = MatchOption o (Absent gs Frame) (λ f. (text : Bor (List ℕ)) × ValueIs gs Frame text × Stands text.now f)

-- a text that is no frame, where it stops, or want of memory
abbrev pub BadFrameText : Bor (List ℕ) → Misuse → Type 0
BadFrameText text m = (m ≡ misuse.Memory) ⊎ ((f : FrameFault) × (m ≡ misuse.BadFrame text f) × Stops text.now f)

-- a frame that is given and is none
abbrev pub BadFrame : List Given → Misuse → Type 0
BadFrame gs m = (text : Bor (List ℕ)) × ValueIs gs Frame text × BadFrameText text m

-- the number of rows that is given, 1 or more
abbrev pub ByRowsIs : List Given → Option ℕ → Type 0
ByRowsIs gs o = MatchOption o (Absent gs ByRows) (λ k. (text : Bor (List ℕ)) × ValueIs gs ByRows text × Counts text.now k × (1 ≤ k))

-- a text that is no number from 1 on
abbrev pub BadCount : Bor (List ℕ) → Misuse → Type 0
BadCount text m = (m ≡ misuse.NoNumber ByRows text) × ((k : ℕ) → Counts text.now k → k ≡ 0)

-- such a text that is given as a number of rows
abbrev pub BadByRows : List Given → Misuse → Type 0
BadByRows gs m = (text : Bor (List ℕ)) × ValueIs gs ByRows text × BadCount text m

-- the parts of a text before and behind its first minus sign
abbrev pub Halves : List ℕ → List ℕ → List ℕ → Type 0
Halves text from to = (text ≡ from ++ (codes "-" ++ to)) × LacksByte 45 from

-- two numbers with a minus sign between them, the first no larger
abbrev pub IsRange : List ℕ → Rows → Type 0
IsRange text r = (from : List ℕ) × (to : List ℕ) × Halves text from to × Counts from r.from × Counts to r.to × (r.from ≤ r.to)

-- two texts that are not both numbers, or of which the first is the larger one
abbrev pub Apart : List ℕ → List ℕ → Type 0
Apart from to = ¬ (Count from) ⊎ (¬ (Count to) ⊎ ((a : ℕ) × (b : ℕ) × Counts from a × Counts to b × (b < a)))

-- a text without a minus sign, or whose parts are no range
abbrev pub NoRange : List ℕ → Type 0
NoRange text = LacksByte 45 text ⊎ ((from : List ℕ) × (to : List ℕ) × Halves text from to × Apart from to)

-- the rows that are given
abbrev pub RowsAre : List Given → Option Rows → Type 0
RowsAre gs o = MatchOption o (Absent gs RowsKey) (λ r. (text : Bor (List ℕ)) × ValueIs gs RowsKey text × IsRange text.now r)

-- rows that are given and are no range
abbrev pub BadRows : List Given → Misuse → Type 0
BadRows gs m = (text : Bor (List ℕ)) × ValueIs gs RowsKey text × (m ≡ misuse.BadRows text) × NoRange text.now
