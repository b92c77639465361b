-- Calls from C on whole partitions.
use Rattle.std.specs.Prelude.{◌≡◌, ℕ, Bool, true, false, cond, List, map, length, slice_set, Float, Some, None, Ok, Err, Option, Result}
use Rattle.column.specs.declared.fault.Fault.{Fault}
use Rattle.column.specs.Slots.{written}
use Rattle.partition.specs.Peers.{Group, peers}
use Rattle.column.specs.Cells.{cells}
use Rattle.column.specs.Refusal.{or_else, column_refusal}
use Rattle.partition.specs.Table.{Input, row_count, whole_refusal, places_refusal}
use Rattle.evaluator.specs.Meaning.{partition}
use Rattle.lead_lag.specs.Shift.{shift_meaning}
use Rattle.nth_value.specs.Nth.{nth_meaning}
use Rattle.rank.specs.Ranks.{rank_meaning, new_rank}
use Rattle.rank.specs.Numbers.{row_number_meaning, new_row_number}
use Rattle.rank.specs.Fractions.{fraction_meaning, percent_rank, cume_dist}
use Rattle.wire.specs.declared.stop.Stop.{Stop}
use Rattle.wire.specs.declared.stop.Told.{Told}
use Rattle.wire.specs.declared.stop.Stop.TheVariants as stop
use Rattle.wire.specs.declared.lists.Span.{Span}
use Rattle.wire.specs.declared.function.Function.{Function}
use Rattle.wire.specs.declared.function.Family.{Family}
use Rattle.wire.specs.declared.function.Chosen.{Chosen}
use Rattle.wire.specs.declared.function.Chosen.TheVariants.{Shift, Nth}
use Rattle.wire.specs.declared.function.Ranking.{Ranking}
use Rattle.wire.specs.declared.function.Ranking.TheVariants.{Rank, RowNumber}
use Rattle.wire.specs.declared.function.Fractional.{Fractional}
use Rattle.wire.specs.declared.function.Fractional.TheVariants.{PercentRank, CumeDist}
use Rattle.wire.specs.declared.whole.Lent.{Lent}
use Rattle.wire.specs.Stops.{first_of, stopped, refused, told}
use Rattle.wire.specs.Lists.{mark_flaw, marks_of, pairs_of, span_of, over}
use Rattle.wire.specs.Functions.{function_flaw, choosing, ranking_of, fractional_of}
use Rattle.wire.specs.Kinds.{Coding}
use Rattle.wire.specs.Slots.{LentSlots, LentFilled, put_lent, lent_count}
use Rattle.wire.specs.Ends.{Ends, told_stop}

-- a partition as C lends it
pub record Handed (N : Type 0) : Type 0 where
  pub values : List N
  pub marks : List ℕ
  pub frames : List Span
  pub groups : List Span

-- what is lent
abbrev pub handed : {N : Type 0} → Lent N → Handed N
handed l = record { values = l.values.now; marks = l.marks.now; frames = l.frames.now; groups = l.groups.now }

-- the partition that it stands for
abbrev pub handed_input : {V N : Type 0} → Coding V N → Handed N → Input V
handed_input k x = record { values = k.decodes x.values; marks = marks_of x.marks; frames = pairs_of x.frames; groups = pairs_of x.groups }

-- the families of functions
abbrev pub cell_family : Family
cell_family = record { first = 0; last = 4; mirrors = 1 }

-- the same
abbrev pub number_family : Family
number_family = record { first = 5; last = 7; mirrors = 0 }

-- the same
abbrev pub fraction_family : Family
fraction_family = record { first = 8; last = 9; mirrors = 0 }

-- the flaws of what every call is handed
abbrev pub read_stop : {V N : Type 0} → Coding V N → Family → Function → List N → List ℕ → Option Stop
read_stop k family f values marks =
    first_of (stopped stop.Function (function_flaw family f)) (first_of (stopped stop.Mark (mark_flaw marks)) (stopped stop.Value (k.flaws values)))

-- a default that stands for no value, the field behind the marks of a function
abbrev pub default_flaw : {V N : Type 0} → Coding V N → N → Option ℕ
default_flaw k default = cond (k.flawed default) (Some 8) None

-- the check of a whole partition that refuses an evaluator's call
abbrev pub chosen_refusal : {V : Type 0} → (V → V → Bool) → Chosen V → Input V → ℕ → Option Fault
chosen_refusal same (Shift e) x slots = whole_refusal same false false x slots
chosen_refusal same (Nth e) x slots = whole_refusal same true false x slots

-- its answers
abbrev pub chosen_answers : {V : Type 0} → Chosen V → Input V → ℕ → Option V
chosen_answers (Shift e) x = (shift_meaning e).answer (partition false x)
chosen_answers (Nth e) x = (nth_meaning e).answer (partition true x)

-- the refusal of the argument, or that check
abbrev pub chosen_stop : {V : Type 0} → (V → V → Bool) → Result (Chosen V) Fault → Input V → ℕ → Option Stop
chosen_stop same (Ok e) x slots = refused (chosen_refusal same e x slots)
chosen_stop same (Err f) x slots = Some (stop.Refused f)

-- the slots after the answers
abbrev pub chosen_left : {V N : Type 0} → Coding V N → Result (Chosen V) Fault → Input V → LentSlots N → LentSlots N
chosen_left k (Ok e) x before = written (put_lent k.encoded) (chosen_answers e x) before (row_count x)
chosen_left k (Err f) x before = before

-- what stops a call for cells, the first of these
abbrev pub cells_stop : {V N : Type 0} → Coding V N → (V → V → Bool) → Function → N → Handed N → ℕ → Option Stop
cells_stop k same f default x slots =
    first_of (read_stop k cell_family f x.values x.marks)
    (first_of (stopped stop.Function (default_flaw k default)) (chosen_stop same (choosing f (k.decoded default)) (handed_input k x) slots))

-- what a call for cells gives and leaves; here as below `error` is what is given of a stop, and `ok` of a call that is not stopped
abbrev pub CellsEnd : {V N R : Type 0} → (Stop → R) → R → Coding V N → (V → V → Bool) → Function → N → Handed N → LentSlots N → LentSlots N → R → Type 0
CellsEnd error ok k same f default x before after r =
    Ends error (cells_stop k same f default x (lent_count before)) before after r
    ((r ≡ ok) × (after ≡ chosen_left k (choosing f (k.decoded default)) (handed_input k x) before))

-- as C is told
abbrev pub CellsCall : {V N : Type 0} → Coding V N → (V → V → Bool) → Function → N → Handed N → LentSlots N → LentSlots N → Told → Type 0
CellsCall k same f default x before after t = CellsEnd told_stop (told (Ok 0)) k same f default x before after t

-- what the lists hold after one that was not refused, place by place
abbrev pub CellsFilled : {V N : Type 0} → Coding V N → Function → N → Handed N → LentSlots N → LentSlots N → Told → Type 0
CellsFilled {V} k f default x before after t =
    t.refused ≡ 0 → (e : Chosen V) → choosing f (k.decoded default) ≡ Ok e → LentFilled k.encoded (chosen_answers e (handed_input k x)) (row_count (handed_input k x)) before after

-- the check of a whole partition that refuses a function of numbers
abbrev pub ranking_refusal : {V : Type 0} → (V → V → Bool) → Ranking → Input V → ℕ → Option Fault
ranking_refusal same (Rank type) x slots = whole_refusal same false true x slots
ranking_refusal same RowNumber x slots = whole_refusal same false false x slots

-- its answers
abbrev pub ranking_answers : {V : Type 0} → (V → V → Bool) → Ranking → Input V → ℕ → ℕ
ranking_answers same (Rank type) x = (rank_meaning same (new_rank type)).answer (partition false x)
ranking_answers same RowNumber x = (row_number_meaning new_row_number).answer (partition false x)

-- what a call for numbers gives and leaves
abbrev pub NumbersEnd : {V N R : Type 0} → (Stop → R) → R → Coding V N → (V → V → Bool) → Function → Handed N → List ℕ → List ℕ → R → Type 0
NumbersEnd error ok k same f x before after r =
    Ends error (first_of (read_stop k number_family f x.values x.marks) (refused (ranking_refusal same (ranking_of f) (handed_input k x) (length before)))) before after r
    ((r ≡ ok) × (after ≡ written (λ s i a. slice_set s i a) (ranking_answers same (ranking_of f) (handed_input k x)) before (row_count (handed_input k x))))

-- as C is told
abbrev pub NumbersCall : {V N : Type 0} → Coding V N → (V → V → Bool) → Function → Handed N → List ℕ → List ℕ → Told → Type 0
NumbersCall k same f x before after t = NumbersEnd told_stop (told (Ok 0)) k same f x before after t

-- the answers of a function of fractions
abbrev pub fractional_answers : {V : Type 0} → (V → V → Bool) → Fractional → Input V → ℕ → Float
fractional_answers same PercentRank x = (fraction_meaning percent_rank same).answer (partition false x)
fractional_answers same CumeDist x = (fraction_meaning cume_dist same).answer (partition false x)

-- what a call for fractions gives and leaves
abbrev pub FractionsEnd : {V N R : Type 0} → (Stop → R) → R → Coding V N → (V → V → Bool) → Function → Handed N → List Float → List Float → R → Type 0
FractionsEnd error ok k same f x before after r =
    Ends error (first_of (read_stop k fraction_family f x.values x.marks) (refused (whole_refusal same false true (handed_input k x) (length before)))) before after r
    ((r ≡ ok) × (after ≡ written (λ s i a. slice_set s i a) (fractional_answers same (fractional_of f) (handed_input k x)) before (row_count (handed_input k x))))

-- as C is told
abbrev pub FractionsCall : {V N : Type 0} → Coding V N → (V → V → Bool) → Function → Handed N → List Float → List Float → Told → Type 0
FractionsCall k same f x before after t = FractionsEnd told_stop (told (Ok 0)) k same f x before after t

-- the peer groups of a column
abbrev pub peers_of : {V N : Type 0} → Coding V N → (V → V → Bool) → List N → List ℕ → List Group
peers_of k same values marks = peers same (cells (k.decodes values) (marks_of marks))

-- what stops a call for peer groups, the first of these
abbrev pub groups_stop : {V N : Type 0} → Coding V N → (V → V → Bool) → List N → List ℕ → ℕ → Option Stop
groups_stop k same values marks places =
    first_of (stopped stop.Mark (mark_flaw marks)) (first_of (stopped stop.Value (k.flaws values))
    (refused (or_else (column_refusal (length (k.decodes values)) (length (marks_of marks))) (places_refusal (length (peers_of k same values marks)) places))))

-- what a call for peer groups gives and leaves
abbrev pub GroupsEnd : {V N R : Type 0} → (Stop → R) → (ℕ → R) → Coding V N → (V → V → Bool) → List N → List ℕ → List Span → List Span → R → Type 0
GroupsEnd error ok k same values marks before after r =
    Ends error (groups_stop k same values marks (length before)) before after r
    ((r ≡ ok (length (peers_of k same values marks))) × (after ≡ over (map span_of (peers_of k same values marks)) before))

-- as C is told
abbrev pub GroupsCall : {V N : Type 0} → Coding V N → (V → V → Bool) → List N → List ℕ → List Span → List Span → Told → Type 0
GroupsCall k same values marks before after t = GroupsEnd told_stop (λ n. told (Ok n)) k same values marks before after t
