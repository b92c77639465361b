-- Where the answers of a partition come from: what its function answers where the value of each row is the row's own place. Assumes nothing.
use Rattle.std.specs.Prelude.{◌≡◌, ℕ, min, pos, negsuc, ℤ, Bool, true, false, not, cond, ◌&&◌, nat_eq, List, [], length, map, slice_get, Ok, Option, Some, None}
use Rattle.std.specs.List.{range_with_len}
use Rattle.column.specs.declared.kind.Instant.{Instant}
use Rattle.evaluator.specs.Meaning.{Meaning, partition}
use Rattle.fields.specs.Answers.{row_answers}
use Rattle.lead_lag.specs.declared.WindowShift.{WindowShift}
use Rattle.lead_lag.specs.declared.offset.WindowShiftKind.{WindowShiftKind}
use Rattle.lead_lag.specs.declared.offset.WindowShiftKind.TheVariants as shifts
use Rattle.lead_lag.specs.Shift.{shift_meaning, making}
use Rattle.moving.specs.Moving.{ShownAll, from_zero}
use Rattle.nth_value.specs.declared.NthValue.{NthValue}
use Rattle.nth_value.specs.declared.kind.NthValueKind.TheVariants.{First, Last}
use Rattle.nth_value.specs.Nth.{nth_meaning, new_of, making as making_nth}
use Rattle.column.specs.Kinds.{same_instant}
use Rattle.options.specs.declared.asked.Asked.{Asked}
use Rattle.options.specs.declared.function.Function.{Function}
use Rattle.options.specs.declared.function.Function.TheVariants as functions
use Rattle.partition.specs.Table.{Frame, Input}
use Rattle.picture.specs.declared.row.Source.{Source}
use Rattle.picture.specs.declared.row.Source.TheVariants.{Row, Default, Nothing}
use Rattle.rank.specs.declared.rank.RankType.TheVariants.{Basic, Dense}
use Rattle.rank.specs.Numbers.{row_number_meaning, new_row_number}
use Rattle.rank.specs.Ranks.{rank_meaning, new_rank}
use Rattle.table.specs.declared.content.Content.{Content}
use Rattle.table.specs.Contents.{bytes_of}
use Rattle.turns.specs.declared.layout.Turn.{Turn}
use Rattle.drawing.specs.declared.sources.Places.{Places}
use Rattle.drawing.specs.declared.sources.Seen.{Seen}

-- a place as a value
abbrev pub place_value : ℕ → Instant
place_value k = record { 0 = pos (min k 9223372036854775807) }

-- the value that stands for the default: no place
abbrev pub default_value : Instant
default_value = record { 0 = negsuc 0 }

-- a content that says no value
abbrev pub is_void : Option Content → Bool
is_void None = true
is_void (Some c) = nat_eq (length (bytes_of c)) 0

-- whether a row counts: it has a value, or NULLs count too
abbrev pub counts : Bool → List Content → ℕ → Bool
counts ignores contents row = not (ignores && is_void (slice_get contents row))

-- the partition in which the value of each row is its place, and NULL where the row does not count
abbrev pub places : Bool → List Content → List Turn → List Frame → Input Instant
places ignores contents turns frames = record { values = map place_value (range_with_len 0 (length turns)); marks = map (λ t. counts ignores contents t.row) turns; frames = frames; groups = [] }

-- what the lists of places hold
abbrev pub held : Places → Input Instant
held p = record { values = p.values.items; marks = p.marks.items; frames = p.frames.now; groups = [] }

-- the row of a place, or the default
abbrev pub row_or_default : ℤ → Source
row_or_default (pos k) = Row k
row_or_default (negsuc k) = Default

-- where an answer over the places comes from
abbrev pub source_of : Option Instant → Source
source_of None = Nothing
source_of (Some t) = row_or_default t.0

-- what a run is shown for each row, where rows are asked one by one
abbrev pub ShownBy : {V A S : Type 0} → (S → Meaning V A) → S → Bool → Input V → Option ℕ → List Frame → Type 0
ShownBy meaning e wants x None shown = shown ≡ []
ShownBy meaning e wants x (Some step) shown = (early : ℕ) × ShownAll meaning e (partition wants x) (from_zero x.frames) step shown early

-- a function of values is asked over the places
pub record Sees {S : Type 0} (meaning : S → Meaning Instant (Option Instant)) (e : S) (wants : Bool) (x : Input Instant) (by_rows : Option ℕ) (seen : Seen) : Type 0 where
  pub sources : seen.sources.items ≡ map source_of (row_answers (meaning e) wants x)
  pub shown : ShownBy meaning e wants x by_rows seen.shown.items

-- the answer of each row comes from no row
abbrev pub NoSources : Input Instant → Seen → Type 0
NoSources x seen = seen.sources.items ≡ map (λ v. Nothing) x.values

-- a function of the order is asked over the places: its answers come from no row
pub record SeesNone {A S : Type 0} (meaning : S → Meaning Instant A) (e : S) (wants : Bool) (x : Input Instant) (by_rows : Option ℕ) (seen : Seen) : Type 0 where
  pub sources : NoSources x seen
  pub shown : ShownBy meaning e wants x by_rows seen.shown.items

-- LAG or LEAD
abbrev pub SeesShift : WindowShiftKind → Asked → Input Instant → Seen → Type 0
SeesShift kind asked x seen = (e : WindowShift Instant) × (making kind asked.offset false asked.ignore_nulls (Some default_value) ≡ Ok e) × Sees shift_meaning e false x asked.by_rows seen

-- FIRST_VALUE, LAST_VALUE or NTH_VALUE
abbrev pub SeesNth : NthValue Instant → Asked → Input Instant → Seen → Type 0
SeesNth e asked x seen = Sees nth_meaning e true x asked.by_rows seen

-- what is seen of the answers of a function over the places
abbrev pub SeesAnswers : Function → Asked → Input Instant → Seen → Type 0
SeesAnswers functions.Lag asked x seen = SeesShift shifts.Lag asked x seen
SeesAnswers functions.Lead asked x seen = SeesShift shifts.Lead asked x seen
SeesAnswers functions.FirstValue asked x seen = SeesNth (new_of First asked.ignore_nulls) asked x seen
SeesAnswers functions.LastValue asked x seen = SeesNth (new_of Last asked.ignore_nulls) asked x seen
SeesAnswers functions.NthValue asked x seen = (e : NthValue Instant) × (making_nth asked.n asked.ignore_nulls ≡ Ok e) × SeesNth e asked x seen
SeesAnswers functions.Rank asked x seen = SeesNone (rank_meaning same_instant) (new_rank Basic) false x asked.by_rows seen
SeesAnswers functions.DenseRank asked x seen = SeesNone (rank_meaning same_instant) (new_rank Dense) false x asked.by_rows seen
SeesAnswers functions.RowNumber asked x seen = SeesNone row_number_meaning new_row_number false x asked.by_rows seen
SeesAnswers functions.PercentRank asked x seen = NoSources x seen × (seen.shown.items ≡ [])
SeesAnswers functions.CumeDist asked x seen = NoSources x seen × (seen.shown.items ≡ [])
