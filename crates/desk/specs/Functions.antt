-- What each function answers. Assumes nothing.
use Rattle.std.specs.Prelude.{◌≡◌, ◌≢◌, ℕ, Bool, true, false, List, [], map, decimal, Ok, Some, None, Option, MatchBool, MatchOption}
use Rattle.std.specs.Borrow.{Bor}
use Rattle.std.specs.Vec.{vec_items}
use Rattle.column.specs.declared.kind.Instant.{Instant}
use Rattle.column.specs.Kinds.{same_instant}
use Rattle.evaluator.specs.Meaning.{Meaning}
use Rattle.fields.specs.Answers.{cell_text}
use Rattle.fields.specs.Values.{SaysCode, SaysInstant, SaysOutcome, SaysPseudonym, code_text, instant_text, outcome_text, pseudonym_text}
use Rattle.lead_lag.specs.declared.WindowShift.{WindowShift}
use Rattle.lead_lag.specs.declared.offset.WindowShiftKind.{WindowShiftKind}
use Rattle.lead_lag.specs.declared.offset.WindowShiftKind.TheVariants as shifts
use Rattle.lead_lag.specs.Shift.{shift_meaning, making}
use Rattle.nth_value.specs.declared.NthValue.{NthValue}
use Rattle.nth_value.specs.declared.kind.NthValueKind.TheVariants.{First, Last}
use Rattle.nth_value.specs.Nth.{nth_meaning, new_of, making as making_nth}
use Rattle.options.specs.declared.asked.Asked.{Asked}
use Rattle.options.specs.declared.asked.ValueKind.{ValueKind}
use Rattle.options.specs.declared.asked.ValueKind.TheVariants as kinds
use Rattle.options.specs.Functions.{is_valued}
use Rattle.options.specs.declared.frame.RowsFrame.{RowsFrame}
use Rattle.options.specs.declared.function.Function.{Function}
use Rattle.options.specs.declared.function.Function.TheVariants as functions
use Rattle.rank.specs.declared.rank.RankType.TheVariants.{Basic, Dense}
use Rattle.rank.specs.Fractions.{percent_rank, cume_dist, fraction_meaning}
use Rattle.rank.specs.Numbers.{row_number_meaning, new_row_number}
use Rattle.rank.specs.Ranks.{rank_meaning, new_rank}
use Rattle.table.specs.declared.content.Content.{Content}
use Rattle.turns.specs.declared.layout.Turn.{Turn}
use Rattle.desk.specs.declared.answer.Answered.{Answered}
use Rattle.desk.specs.declared.by_rows.Told.{Told}
use Rattle.desk.specs.declared.job.Job.{Job}
use Rattle.desk.specs.Answers.{answers_in_turn, parted}
use Rattle.desk.specs.Cells.{AreCells}
use Rattle.desk.specs.Columns.{ColumnNamed, IsSheet, Sheet, new_name}
use Rattle.desk.specs.Parts.{order_value, part}
use Rattle.desk.specs.Rows.{InTurn}
use Rattle.desk.specs.Runs.{TookAll, none_told}
use Rattle.desk.specs.Texts.{Written}

-- a table whose rows were put in turn: its records, the name of the new column, and the rows
pub record Laid : Type 0 where
  pub records : List (Bor (List ℕ))
  pub name : List ℕ
  pub turns : List Turn

-- what a job writes, by rows in turn
abbrev pub laid : Job → List Turn → Laid
laid j turns = record { records = vec_items j.table.now.records; name = new_name j.asked.now; turns = turns }

-- all rows with their answers, by an evaluator's meaning
abbrev pub Answers : {V A : Type 0} → (A → List ℕ → Type 0) → Meaning V A → Bool → Option RowsFrame → List (Option V) → Laid → Answered → Type 0
Answers writes m wants frame cells laid a = Written writes laid.turns (answers_in_turn m wants frame cells laid.turns) laid.records laid.name (vec_items a.text)

-- the same, of an evaluator that is asked for no row alone
abbrev pub AnswersWhole : {V A : Type 0} → (A → List ℕ → Type 0) → Meaning V A → Bool → Option RowsFrame → List (Option V) → Laid → Answered → Type 0
AnswersWhole writes m wants frame cells laid a = Answers writes m wants frame cells laid a × (a.told ≡ None)

-- what runs took, where rows were asked one by one
abbrev pub Tells : {V A S : Type 0} → (S → Meaning V A) → S → Bool → Option RowsFrame → List (Option V) → Laid → Option ℕ → Option Told → Type 0
Tells meaning e wants frame cells laid None told = told ≡ None
Tells meaning e wants frame cells laid (Some step) told = (t : Told) × (told ≡ Some t) × TookAll meaning e (part wants frame cells) step none_told (parted laid.turns) t

-- the answers of an evaluator that has the row interface, and what runs took
pub record AnswersRows {V A S : Type 0} (writes : A → List ℕ → Type 0) (meaning : S → Meaning V A) (e : S) (wants : Bool) (frame : Option RowsFrame) (cells : List (Option V)) (laid : Laid) (by_rows : Option ℕ) (a : Answered) : Type 0 where
  pub answers : Answers writes (meaning e) wants frame cells laid a
  pub told : Tells meaning e wants frame cells laid by_rows a.told

-- the default of LAG and LEAD: NULL where none or an empty text is given, else a value that the text says
abbrev pub DefaultIs : {V : Type 0} → (List ℕ → V → Type 0) → Option (Bor (List ℕ)) → Option V → Type 0
DefaultIs says None default = default ≡ None
DefaultIs says (Some text) default = MatchOption default (text.now ≡ []) (λ v. (text.now ≢ []) × says text.now v)

-- a value, or NULL, as it is written
abbrev pub writes_cell : {V : Type 0} → (V → List ℕ) → Option V → List ℕ → Type 0
writes_cell value_text a t = t ≡ cell_text value_text a

-- LAG or LEAD
pub record Shifts {V : Type 0} (says : List ℕ → V → Type 0) (value_text : V → List ℕ) (kind : WindowShiftKind) (asked : Asked) (cells : List (Option V)) (laid : Laid) (a : Answered) : Type 0 where
  pub default : Option V
  pub default_is : DefaultIs says asked.default default
  pub shift : WindowShift V
  pub made : making kind asked.offset false asked.ignore_nulls default ≡ Ok shift
  pub answers : AnswersRows (writes_cell value_text) shift_meaning shift false asked.frame cells laid asked.by_rows a

-- FIRST_VALUE, LAST_VALUE or NTH_VALUE
abbrev pub Picks : {V : Type 0} → (V → List ℕ) → NthValue V → Asked → List (Option V) → Laid → Answered → Type 0
Picks value_text e asked cells laid a = AnswersRows (writes_cell value_text) nth_meaning e true asked.frame cells laid asked.by_rows a

-- a function of the values of a column
abbrev pub AnswersValues : {V : Type 0} → (List ℕ → V → Type 0) → (V → List ℕ) → Function → Asked → List (Option V) → Laid → Answered → Type 0
AnswersValues says value_text functions.Lag asked cells laid a = Shifts says value_text shifts.Lag asked cells laid a
AnswersValues says value_text functions.Lead asked cells laid a = Shifts says value_text shifts.Lead asked cells laid a
AnswersValues says value_text functions.FirstValue asked cells laid a = Picks value_text (new_of First asked.ignore_nulls) asked cells laid a
AnswersValues says value_text functions.LastValue asked cells laid a = Picks value_text (new_of Last asked.ignore_nulls) asked cells laid a
AnswersValues says value_text functions.NthValue asked cells laid a = (e : NthValue _) × (making_nth asked.n asked.ignore_nulls ≡ Ok e) × Picks value_text e asked cells laid a
AnswersValues says value_text functions.Rank asked cells laid a = ⊥
AnswersValues says value_text functions.DenseRank asked cells laid a = ⊥
AnswersValues says value_text functions.PercentRank asked cells laid a = ⊥
AnswersValues says value_text functions.CumeDist asked cells laid a = ⊥
AnswersValues says value_text functions.RowNumber asked cells laid a = ⊥

-- a fraction is written somehow: of its digits nothing is said
abbrev pub writes_fraction : {A : Type 0} → A → List ℕ → Type 0
writes_fraction a t = Unit {0}

-- a whole number in digits
abbrev pub writes_number : ℕ → List ℕ → Type 0
writes_number a t = t ≡ decimal a

-- a function of the order alone, over a column of the order
abbrev pub OrderBy : Function → Asked → List (Option Instant) → Laid → Answered → Type 0
OrderBy functions.Rank asked cells laid a = AnswersRows writes_number (rank_meaning same_instant) (new_rank Basic) false None cells laid asked.by_rows a
OrderBy functions.DenseRank asked cells laid a = AnswersRows writes_number (rank_meaning same_instant) (new_rank Dense) false None cells laid asked.by_rows a
OrderBy functions.PercentRank asked cells laid a = AnswersWhole writes_fraction (fraction_meaning percent_rank same_instant) false None cells laid a
OrderBy functions.CumeDist asked cells laid a = AnswersWhole writes_fraction (fraction_meaning cume_dist same_instant) false None cells laid a
OrderBy functions.RowNumber asked cells laid a = AnswersRows writes_number row_number_meaning new_row_number false None cells laid asked.by_rows a
OrderBy functions.Lag asked cells laid a = ⊥
OrderBy functions.Lead asked cells laid a = ⊥
OrderBy functions.FirstValue asked cells laid a = ⊥
OrderBy functions.LastValue asked cells laid a = ⊥
OrderBy functions.NthValue asked cells laid a = ⊥

-- the column that ranks look at: the numbers of the rows' order
abbrev pub order_cells : List ℕ → List (Option Instant)
order_cells orders = map (λ n. Some (order_value n)) orders

-- a function of the order alone
abbrev pub AnswersOrder : Function → Asked → List ℕ → Laid → Answered → Type 0
AnswersOrder function asked orders laid a = OrderBy function asked (order_cells orders) laid a

-- the same, of a column's contents
abbrev pub ValuesOf : {V : Type 0} → (List ℕ → V → Type 0) → (V → List ℕ) → Asked → List Content → Laid → Answered → Type 0
ValuesOf says value_text asked contents laid a = (cells : List (Option _)) × AreCells says contents cells × AnswersValues says value_text asked.function asked cells laid a

-- the same, of the column that is named
pub record ValuedBy {V : Type 0} (says : List ℕ → V → Type 0) (value_text : V → List ℕ) (s : Sheet) (asked : Asked) (laid : Laid) (a : Answered) : Type 0 where
  pub of : Bor (List ℕ)
  pub named : asked.of ≡ Some of
  pub contents : List Content
  pub column : ColumnNamed s of.now contents
  pub answers : ValuesOf says value_text asked contents laid a

-- by the kind of values that is asked for
abbrev pub AnswersKind : ValueKind → Sheet → Asked → Laid → Answered → Type 0
AnswersKind kinds.Instant s asked laid a = ValuedBy SaysInstant instant_text s asked laid a
AnswersKind kinds.Pseudonym s asked laid a = ValuedBy SaysPseudonym pseudonym_text s asked laid a
AnswersKind kinds.Code s asked laid a = ValuedBy SaysCode code_text s asked laid a
AnswersKind kinds.Outcome s asked laid a = ValuedBy SaysOutcome outcome_text s asked laid a

-- what is asked: a function of values, or of the order alone
abbrev pub AnswersAsked : Sheet → Asked → List ℕ → Laid → Answered → Type 0
AnswersAsked s asked orders laid a = MatchBool (is_valued asked.function) (AnswersKind asked.kind s asked laid a) (AnswersOrder asked.function asked orders laid a)

-- a table is written with the answers that are asked of it as its last column
pub record AnswersSheet (s : Sheet) (asked : Asked) (a : Answered) : Type 0 where
  pub partitions : List ℕ
  pub orders : List ℕ
  pub turns : List Turn
  pub in_turn : InTurn s asked partitions orders turns
  pub answers : AnswersAsked s asked orders (record { records = s.records; name = new_name asked; turns = turns }) a

-- the same of the table of a text
abbrev pub AnswersTable : List ℕ → Asked → Answered → Type 0
AnswersTable text asked a = (s : Sheet) × IsSheet text s × AnswersSheet s asked a
