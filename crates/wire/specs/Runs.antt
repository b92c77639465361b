-- What a run's calls leave in lent lists.
use Rattle.std.specs.Prelude.{◌≡◌, ℕ, ◌+◌, min, Bool, true, false, cond, List, [], ◌∷◌, ◌++◌, map, length, slice_set, Some, None, Ok, Err, Option, Result, ◌==◌}
use Rattle.column.specs.declared.fault.Fault.{Fault}
use Rattle.column.specs.declared.fault.Fault.TheVariants.{Unanswered}
use Rattle.column.specs.Fault as faults
use Rattle.partition.specs.Table.{output_refusal}
use Rattle.evaluator.specs.Meaning.{Meaning}
use Rattle.run.specs.Rows.{Stepping, Settling}
use Rattle.replay.specs.declared.calls.Call.{Call}
use Rattle.replay.specs.declared.calls.Reply.TheVariants.{Answer, Done, Mark, NotTaken}
use Rattle.replay.specs.declared.calls.Entry.{Entry}
use Rattle.replay.specs.History.{Outcome, Event, Replayed, history, accepted, total_of}
use Rattle.replay.specs.Act.{held}
use Rattle.lead_lag.specs.Shift.{shift_meaning, shift_renewed}
use Rattle.lead_lag.specs.Steps.{shift_stepped, shift_settling}
use Rattle.nth_value.specs.Nth.{nth_meaning, nth_renewed, nth_stepped, nth_settling}
use Rattle.rank.specs.Ranks.{rank_meaning, new_rank, rank_renewed, rank_stepped, rank_settling}
use Rattle.rank.specs.Numbers.{row_number_meaning, new_row_number, row_number_stepped, row_number_settling}
use Rattle.wire.specs.declared.stop.Stop.{Stop}
use Rattle.wire.specs.declared.stop.Stop.TheVariants as stop
use Rattle.wire.specs.declared.stop.Told.{Told}
use Rattle.wire.specs.declared.function.Function.{Function}
use Rattle.wire.specs.declared.function.Family.{Family}
use Rattle.wire.specs.declared.function.Chosen.{Chosen}
use Rattle.wire.specs.declared.function.Chosen.TheVariants.{Shift, Nth}
use Rattle.wire.specs.declared.function.Ranking.{Ranking}
use Rattle.wire.specs.declared.function.Ranking.TheVariants.{Rank, RowNumber}
use Rattle.wire.specs.declared.runs.Noted.{Noted}
use Rattle.wire.specs.declared.runs.Script.{Script}
use Rattle.wire.specs.Calls.{calls_in, calls_flaw, AllStand}
use Rattle.wire.specs.Ends.{Ends, told_stop}
use Rattle.wire.specs.Functions.{choosing, ranking_of}
use Rattle.wire.specs.Kinds.{Coding}
use Rattle.wire.specs.Lists.{marks_of, over}
use Rattle.wire.specs.Slots.{LentSlots, put_lent, lent_count}
use Rattle.wire.specs.Stops.{first_of, stopped, refused, told}
use Rattle.wire.specs.Whole.{cell_family, number_family, default_flaw, read_stop}

-- a refusal
abbrev pub noted_refusal : Fault → Noted
noted_refusal f = record { what = 4; number = faults.number f; place = faults.place f }

-- what is noted of a call
abbrev pub noted : {A : Type 0} → Outcome A → Noted
noted (Ok (Answer x)) = record { what = 0; number = 0; place = 0 }
noted (Ok Done) = record { what = 1; number = 0; place = 0 }
noted (Ok (Mark n)) = record { what = 2; number = 0; place = n }
noted (Ok NotTaken) = record { what = 3; number = 0; place = 0 }
noted (Err f) = noted_refusal f

-- an answer goes to its call's slot
abbrev pub put_outcome : {S A : Type 0} → (S → ℕ → A → S) → S → ℕ → Outcome A → S
put_outcome stored s k (Ok (Answer x)) = stored s k x
put_outcome stored s k (Ok Done) = s
put_outcome stored s k (Ok (Mark n)) = s
put_outcome stored s k (Ok NotTaken) = s
put_outcome stored s k (Err f) = s

-- the answers of calls, the first of them call k
abbrev pub put_entries : {S A : Type 0} → (S → ℕ → A → S) → S → ℕ → List (Entry A) → S
put_entries stored s k [] = s
put_entries stored s k (n ∷ ns) = put_entries stored (put_outcome stored s k n.outcome) (k + 1) ns

-- what finishing ends in where this row is the next, and this the total of the accepted close
abbrev pub ended_at : ℕ → Option ℕ → Noted
ended_at next None = record { what = 6; number = 0; place = 0 }
ended_at next (Some total) = cond (next == total) (record { what = 5; number = 0; place = total }) (noted_refusal (Unanswered next))

-- the same after a run's events
abbrev pub ended : {V A : Type 0} → List (Event V A) → Noted
ended h = ended_at (accepted h) (total_of None h)

-- the lists that a run writes to
pub record RunLists (S : Type 0) : Type 0 where
  pub outcomes : List Noted
  pub answers : S

-- Calls that were made on a new run of the evaluator e: some entries that the laws of every run hold of, what is noted of them, their answers, and what finishing after them ends in.
pub record Ran {V A S X : Type 0} (meaning : X → Meaning V A) (step : Stepping X V) (settle : Settling X) (renewed : X → X) (e : X) (wants from_zero : Bool) (stored : S → ℕ → A → S) (calls : List (Call V)) (before after : RunLists S) (last : Noted) : Type 0 where
  pub entries : List (Entry A)
  pub as_many : length entries ≡ length calls
  pub law : Replayed meaning e wants from_zero (history calls entries)
  -- the keep mark that each call found is that of what the calls before leave
  pub marks : (earlier later : List (Event V A)) (x : Event V A) → history calls entries ≡ earlier ++ x ∷ later → x.1.mark ≡ (meaning (held step settle wants from_zero (renewed e) earlier)).keep
  pub outcomes : after.outcomes ≡ over (map (λ n. noted n.outcome) entries) before.outcomes
  pub answers : after.answers ≡ put_entries stored before.answers 0 entries
  pub ends : last ≡ ended (history calls entries)

-- lists that are shorter than the calls, in the place of output slots
abbrev pub room_refusal : ℕ → ℕ → ℕ → Option Fault
room_refusal calls outcomes slots = output_refusal calls (min outcomes slots)

-- a run: stopped with nothing written, or some calls of this sort are made, and what finishing after them ends in is given
abbrev pub RunEnds : {V S : Type 0} → Option Stop → RunLists S → RunLists S → Result Noted Stop → (List (Call V) → Type 0) → (List (Call V) → RunLists S → RunLists S → Noted → Type 0) → Type 0
RunEnds {V} stop before after r Of Made =
    Ends Err stop before after r ((last : Noted) × (r ≡ Ok last) × ((calls : List (Call V)) × Of calls × Made calls before after last))

-- the same of calls whose bytes are without a flaw: only short lists stop them
abbrev pub PlayEnds : {V S : Type 0} → (S → ℕ) → List V → List Bool → List (List ℕ) → RunLists S → RunLists S → Result Noted Stop → (List (Call V) → RunLists S → RunLists S → Noted → Type 0) → Type 0
PlayEnds count vs ms cs before after r Made =
    RunEnds (refused (room_refusal (length cs) (length before.outcomes) (count before.answers))) before after r (AllStand vs ms cs (length cs)) Made

-- the values, marks and calls that a run is handed
pub record Scripted (N : Type 0) : Type 0 where
  pub values : List N
  pub marks : List ℕ
  pub calls : List ℕ

-- what is lent
abbrev pub scripted : {N : Type 0} → Script N → Scripted N
scripted s = record { values = s.values.now; marks = s.marks.now; calls = s.calls.now }

-- calls that the bytes stand for
abbrev pub CallsOf : {V N : Type 0} → Coding V N → Scripted N → List (Call V) → Type 0
CallsOf k x calls = AllStand (k.decodes x.values) (marks_of x.marks) (calls_in x.calls) (length (calls_in x.calls)) calls

-- the flaws of what every run is handed
abbrev pub script_stop : {V N : Type 0} → Coding V N → Family → Function → Scripted N → Option Stop
script_stop k family f x =
    first_of (read_stop k family f x.values x.marks) (stopped stop.Call (calls_flaw (k.decodes x.values) (marks_of x.marks) x.calls))

-- a run of LAG, LEAD, FIRST_VALUE, LAST_VALUE or NTH_VALUE
abbrev pub ChosenRan : {V S : Type 0} → Chosen V → Bool → (S → ℕ → Option V → S) → List (Call V) → RunLists S → RunLists S → Noted → Type 0
ChosenRan (Shift e) from_zero stored calls before after last = Ran shift_meaning shift_stepped shift_settling shift_renewed e false from_zero stored calls before after last
ChosenRan (Nth e) from_zero stored calls before after last = Ran nth_meaning nth_stepped nth_settling nth_renewed e true from_zero stored calls before after last

-- the refusal of its argument, or of short lists
abbrev pub chosen_room : {V : Type 0} → Result (Chosen V) Fault → ℕ → ℕ → ℕ → Option Stop
chosen_room (Ok e) calls outcomes slots = refused (room_refusal calls outcomes slots)
chosen_room (Err f) calls outcomes slots = Some (stop.Refused f)

-- the run of an evaluator that was made
abbrev pub MadeRan : {V S : Type 0} → Result (Chosen V) Fault → Bool → (S → ℕ → Option V → S) → List (Call V) → RunLists S → RunLists S → Noted → Type 0
MadeRan (Ok e) from_zero stored calls before after last = ChosenRan e from_zero stored calls before after last
MadeRan (Err f) from_zero stored calls before after last = ⊥

-- what stops a run of cells, the first of these
abbrev pub run_stop : {V N : Type 0} → Coding V N → Function → N → Scripted N → ℕ → ℕ → Option Stop
run_stop k f default x outcomes slots =
    first_of (script_stop k cell_family f x)
    (first_of (stopped stop.Function (default_flaw k default)) (chosen_room (choosing f (k.decoded default)) (length (calls_in x.calls)) outcomes slots))

-- a run of RANK, DENSE_RANK or ROW_NUMBER
abbrev pub RankingRan : {V : Type 0} → (V → V → Bool) → Ranking → Bool → List (Call V) → RunLists (List ℕ) → RunLists (List ℕ) → Noted → Type 0
RankingRan same (Rank type) from_zero calls before after last = Ran (rank_meaning same) (rank_stepped same) rank_settling rank_renewed (new_rank type) false from_zero (λ s i a. slice_set s i a) calls before after last
RankingRan same RowNumber from_zero calls before after last = Ran row_number_meaning row_number_stepped row_number_settling (λ e. new_row_number) new_row_number false from_zero (λ s i a. slice_set s i a) calls before after last

-- what finishing ended in, where it was asked for
abbrev pub ending_left : Function → Noted → Noted → Noted
ending_left f last before = cond (f.finish == 1) last before

-- what a run of cells tells and leaves, its lists and the ending
abbrev pub RunCellsCall : {V N : Type 0} → Coding V N → Function → N → Scripted N → RunLists (LentSlots N) × Noted → RunLists (LentSlots N) × Noted → Told → Type 0
RunCellsCall {V} k f default x before after t =
    Ends told_stop (run_stop k f default x (length before.0.outcomes) (lent_count before.0.answers)) before after t
    ((t ≡ told (Ok 0)) × ((calls : List (Call V)) × (last : Noted) × CallsOf k x calls × MadeRan (choosing f (k.decoded default)) (f.from_zero == 1) (put_lent k.encoded) calls before.0 after.0 last × (after.1 ≡ ending_left f last before.1)))

-- what a run of numbers tells and leaves, its lists and the ending
abbrev pub RunNumbersCall : {V N : Type 0} → Coding V N → (V → V → Bool) → Function → Scripted N → RunLists (List ℕ) × Noted → RunLists (List ℕ) × Noted → Told → Type 0
RunNumbersCall {V} k same f x before after t =
    Ends told_stop (first_of (script_stop k number_family f x) (refused (room_refusal (length (calls_in x.calls)) (length before.0.outcomes) (length before.0.answers)))) before after t
    ((t ≡ told (Ok 0)) × ((calls : List (Call V)) × (last : Noted) × CallsOf k x calls × RankingRan same (ranking_of f) (f.from_zero == 1) calls before.0 after.0 last × (after.1 ≡ ending_left f last before.1)))
