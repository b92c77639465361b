-- The rows that a picture shows. Assumes nothing.
use Rattle.std.specs.Prelude.{◌≡◌, ◌≢◌, ℕ, ◌+◌, ◌-◌, ◌^◌, ◌<◌, ◌&&◌, min, max, nat_le, nat_lt, List, [], ◌++◌, codes, decimal, length, slice_get, slice_index_or, string_bytes, String, Option, Some, None, MatchOption, if◌then◌else◌}
use Rattle.std.specs.Borrow.{Bor}
use Rattle.std.specs.Str.{IsUtf8}
use Rattle.options.specs.declared.command.Rows.{Rows}
use Rattle.partition.specs.Table.{Frame}
use Rattle.picture.specs.declared.row.Held.{Held}
use Rattle.picture.specs.declared.row.Row.{Row}
use Rattle.picture.specs.declared.row.Source.{Source}
use Rattle.picture.specs.declared.row.Source.TheVariants as source
use Rattle.table.specs.declared.content.Content.{Content}
use Rattle.table.specs.Contents.{bytes_of}
use Rattle.turns.specs.declared.layout.Turn.{Turn}
use Rattle.drawing.specs.declared.rows.Columns.{Columns}
use Rattle.drawing.specs.declared.rows.Span.{Span}
use Rattle.drawing.specs.declared.sources.Seen.{Seen}
use Rattle.drawing.specs.Sources.{is_void}

-- rows by their places in a partition, if there are any
abbrev pub some_rows : ℕ → ℕ → Option Span
some_rows from to = if nat_lt from to then Some (record { from = from; to = to }) else None

-- the rows of a partition that are drawn: those that are named, counted from 1, or all of them
abbrev pub rows_drawn : Option Rows → ℕ → Option Span
rows_drawn None count = Some (record { from = 0; to = count })
rows_drawn (Some r) count = some_rows (r.from - 1) (min r.to count)

-- the number of a place, from 1
abbrev pub number : ℕ → ℕ
number k = min (k + 1) (2 ^ 64 - 1)

-- a source by its place among the rows that are drawn, by its number where it is none of them
abbrev pub source_in : Span → Source → Source
source_in s (source.Row k) = if nat_le s.from k && nat_lt k s.to then source.Row (k - s.from) else source.Outside (number k)
source_in s (source.Outside k) = source.Outside k
source_in s source.Default = source.Default
source_in s source.Nothing = source.Nothing

-- rows from one place up to another as they stand among those that are drawn, if any of them are
abbrev pub held_between : ℕ → ℕ → ℕ → Option Held
held_between from start end = if nat_lt start end then Some (record { start = start - from; end = end - from }) else None

-- those of the rows that a run was shown that are drawn
abbrev pub held_in : Span → Option Frame → Option Held
held_in s None = None
held_in s (Some w) = held_between s.from (max w.0 s.from) (min w.1 s.to)

-- the label of a row: its number in the partition, and that of its record in the file
abbrev pub label_text : ℕ → ℕ → List ℕ
label_text place row = codes "row " ++ (decimal (number place) ++ (codes ", record " ++ decimal (number row)))

-- the bytes of a content, none where there is none
abbrev pub content_bytes : Option Content → List ℕ
content_bytes None = []
content_bytes (Some c) = bytes_of c

-- bytes as they are shown: NULL where there are none; what is no text of UTF-8 is shown as nothing
abbrev pub Shows : List ℕ → Option (Bor (List ℕ)) → Type 0
Shows bytes o = MatchOption o (bytes ≡ []) (λ t. (bytes ≢ []) × (IsUtf8 bytes → t.now ≡ bytes))

-- the row at a place of a partition, which is that of a record, as it is drawn
pub record ShowsRow (columns : Columns) (seen : Seen) (span : Span) (place row : ℕ) (label : List ℕ) (r : Row) : Type 0 where
  pub label_is : r.label.now ≡ label
  pub value : Shows (content_bytes (slice_get columns.values.now row)) r.value
  pub source : r.source ≡ source_in span (slice_index_or seen.sources.items place source.Nothing)
  pub answer : Shows (content_bytes (slice_get columns.answers.now row)) r.answer
  pub held : r.held ≡ held_in span (slice_get seen.shown.items place)

-- the record of a turn
abbrev pub record_of : Option Turn → ℕ
record_of None = 0
record_of (Some t) = t.row

-- the record of the turn at a place
abbrev pub row_at : List Turn → ℕ → ℕ
row_at turns place = record_of (slice_get turns place)

-- a label for each place of the span
pub record Labels {Z : Type 0} (turns : List Turn) (span : Span) (labels : List (String Z)) : Type 0 where
  pub as_many : length labels ≡ span.to - span.from
  pub each : (k : ℕ) (d : String Z) → k < length labels → string_bytes (slice_index_or labels k d) ≡ label_text (span.from + k) (row_at turns (span.from + k))

-- the rows that are drawn of a partition in turn, one for each place of the span that has a label
pub record ShowsRows {Z : Type 0} (turns : List Turn) (columns : Columns) (seen : Seen) (span : Span) (labels : List (String Z)) (rows : List Row) : Type 0 where
  pub as_many : length rows ≡ min (length labels) (span.to - span.from)
  pub each : (k : ℕ) (d : Row) (e : String Z) → k < length rows → ShowsRow columns seen span (span.from + k) (row_at turns (span.from + k)) (string_bytes (slice_index_or labels k e)) (slice_index_or rows k d)
