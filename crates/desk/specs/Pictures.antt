-- The picture of a partition of a table. Assumes nothing.
use Rattle.std.specs.Prelude.{◌≡◌, ℕ, ◌-◌, ◌⊎◌, true, cond, List, [], ◌∷◌, ◌++◌, codes, decimal, length, Option, Some, None, String}
use Rattle.std.specs.Borrow.{Bor}
use Rattle.std.specs.Global.{Global}
use Rattle.std.specs.List.{Contains}
use Rattle.std.specs.Vec.{vec_items}
use Rattle.fields.specs.declared.answers.Stop.{Stop}
use Rattle.fields.specs.declared.answers.Stop.TheVariants as stops
use Rattle.options.specs.declared.asked.Asked.{Asked}
use Rattle.options.specs.declared.command.Drawing.{Drawing}
use Rattle.options.specs.declared.key.Key.TheVariants.{Frame as FrameKey}
use Rattle.options.specs.Functions.{takes}
use Rattle.partition.specs.Table.{Frame}
use Rattle.picture.specs.declared.row.Row.{Row}
use Rattle.picture.specs.declared.row.Undrawn.{Undrawn}
use Rattle.picture.specs.declared.row.Undrawn.TheVariants as undrawn
use Rattle.picture.specs.Picture.{picture_text}
use Rattle.table.specs.declared.content.Content.{Content}
use Rattle.table.specs.Columns.{ColumnOf}
use Rattle.table.specs.Contents.{bytes_of}
use Rattle.table.specs.Tables.{IsTable}
use Rattle.turns.specs.declared.layout.Turn.{Turn}
use Rattle.drawing.specs.declared.rows.Columns.{Columns}
use Rattle.drawing.specs.declared.rows.Span.{Span}
use Rattle.drawing.specs.declared.sources.Seen.{Seen}
use Rattle.drawing.specs.Rows.{Labels, ShowsRows, rows_drawn}
use Rattle.drawing.specs.Sources.{SeesAnswers, places}
use Rattle.desk.specs.declared.refusal.Refusal.TheVariants.{Memory, Call}
use Rattle.desk.specs.declared.undrawn.NoPicture.{NoPicture}
use Rattle.desk.specs.declared.undrawn.NoPicture.TheVariants.{Unanswered, NoPartition, NoRows, TooManyRows}
use Rattle.desk.specs.Answers.{parted}
use Rattle.desk.specs.Columns.{ColumnNamed, IsSheet, Sheet}
use Rattle.desk.specs.Functions.{AnswersTable}
use Rattle.desk.specs.Messages.{Message}
use Rattle.desk.specs.Parts.{turn_frames}
use Rattle.desk.specs.Rows.{InTurn}
use Rattle.desk.specs.declared.answer.Answered.{Answered}

-- no answers of an evaluator, as a refusal to draw
abbrev pub of_stop : Stop → NoPicture
of_stop stops.Memory = Unanswered Memory
of_stop (stops.Refused fault) = Unanswered (Call fault)

-- no picture of rows, as a refusal to draw
abbrev pub of_undrawn : Undrawn → NoPicture
of_undrawn undrawn.Memory = Unanswered Memory
of_undrawn undrawn.TooMany = TooManyRows

-- what is told of a refusal to draw
abbrev pub NoPictureMessage : List ℕ → List ℕ → NoPicture → List ℕ → Type 0
NoPictureMessage file text (Unanswered refusal) told = Message file text refusal told
NoPictureMessage file text NoPartition told = told ≡ file ++ codes ": no record has the contents of --partition in the columns of --partition-by"
NoPictureMessage file text (NoRows count) told = told ≡ file ++ (codes ": the partition has " ++ (decimal count ++ codes " rows, and none of --rows"))
NoPictureMessage file text TooManyRows told = told ≡ file ++ codes ": more than 10000 rows to draw: name some with --rows"

-- the frames of a partition's rows, where the function looks at them
abbrev pub drawn_frames : Asked → List Turn → List Frame
drawn_frames asked turns = cond (takes asked.function true FrameKey) (turn_frames asked.frame turns) []

-- some rows of a partition are drawn, with the rows that their answers come from
pub record DrawsRows (asked : Asked) (turns : List Turn) (columns : Columns) (span : Span) (text : List ℕ) : Type 0 where
  pub seen : Seen
  pub sees : SeesAnswers asked.function asked (places asked.ignore_nulls columns.values.now turns (drawn_frames asked turns)) seen
  pub labels : List (String Global)
  pub labelled : Labels turns span labels
  pub rows : List Row
  pub shows : ShowsRows turns columns seen span labels rows
  pub title : List ℕ
  pub drawn : text ≡ picture_text title rows

-- the contents of the column of a name, none where no name is given
abbrev pub ColumnOrNone : Sheet → Option (Bor (List ℕ)) → List Content → Type 0
ColumnOrNone s None contents = contents ≡ []
ColumnOrNone s (Some name) contents = ColumnNamed s name.now contents

-- the first name of a list, if there is one
abbrev pub first_name : List (Bor (List ℕ)) → Option (Bor (List ℕ))
first_name [] = None
first_name (name ∷ names) = Some name

-- the column whose values are drawn: the one that is answered, or else the first by which rows are ordered
abbrev pub values_name : Option (Bor (List ℕ)) → List (Bor (List ℕ)) → Option (Bor (List ℕ))
values_name None order = first_name order
values_name (Some name) order = Some name

-- the last column of the table of a text
abbrev pub LastColumn : List ℕ → List Content → Type 0
LastColumn text contents = (width : ℕ) × (records : List (Bor (List ℕ))) × (fields : List (Bor (List ℕ))) × IsTable text width records fields × ColumnOf width fields (width - 1) contents

-- rows of one partition of those in turn, or none
abbrev pub OnePart : List Turn → List Turn → Type 0
OnePart turns part = Contains (parted turns) part ⊎ (part ≡ [])

-- a partition of a table is drawn, with the answers that stand in the last column of another
pub record DrawsPart (s : Sheet) (d : Drawing) (turns : List Turn) (answers : List Content) (text : List ℕ) : Type 0 where
  pub part : List Turn
  pub one : OnePart turns part
  pub values : List Content
  pub column : ColumnOrNone s (values_name d.asked.of d.asked.order_by.items) values
  pub span : Span
  pub named : rows_drawn d.rows (length part) ≡ Some span
  pub columns : Columns
  pub values_are : columns.values.now ≡ values
  pub answers_are : columns.answers.now ≡ answers
  pub drawn : DrawsRows d.asked part columns span text

-- a partition of a text's table is drawn with its answers, which are those that are written of the table
pub record DrawsTable (text : List ℕ) (d : Drawing) (picture : List ℕ) : Type 0 where
  pub answered : Answered
  pub table : AnswersTable text d.asked answered
  pub answers : List Content
  pub last : LastColumn (vec_items answered.text) answers
  pub s : Sheet
  pub sheet : IsSheet text s
  pub partitions : List ℕ
  pub orders : List ℕ
  pub turns : List Turn
  pub in_turn : InTurn s d.asked partitions orders turns
  pub drawn : DrawsPart s d turns answers picture
