-- The history of a run, and what holds of every one.
use Rattle.std.specs.Prelude.{◌≡◌, ℕ, ◌+◌, ◌<◌, ◌≤◌, Bool, true, false, cond, ◌&&◌, T, List, [], ◌∷◌, ◌++◌, length, Some, None, Ok, Err, Option, Result}
use Rattle.column.specs.declared.fault.Fault.{Fault}
use Rattle.column.specs.declared.fault.Fault.TheVariants.{TooEarly, NotFromZero, BadTotal}
use Rattle.column.specs.declared.column.Window.{Window}
use Rattle.run.specs.declared.progress.Progress.{Progress}
use Rattle.replay.specs.declared.calls.Call.{Call}
use Rattle.replay.specs.declared.calls.Call.TheVariants.{Request, Settle, KeepMark, Close}
use Rattle.replay.specs.declared.calls.Reply.{Reply}
use Rattle.replay.specs.declared.calls.Reply.TheVariants.{Answer, Done, Mark, NotTaken}
use Rattle.replay.specs.declared.calls.Entry.{Entry}
use Rattle.evaluator.specs.Meaning.{Partition}
use Rattle.partition.specs.Table.{Frame}
use Rattle.run.specs.Shown.{Shows, Framed, shown, end_of, frame_at, based}
use Rattle.evaluator.specs.Meaning.{Meaning, Alike, settles}
use Rattle.run.specs.Table.{is_total, unfit_total}
use Rattle.run.specs.Run.{refusal_at, frame_or_none}

-- the outcome of a call: what it gives, or why it is refused
abbrev pub Outcome : Type 0 → Type 0
Outcome A = Result (Reply A) Fault

-- an event: a call, and what was noted of it (the keep mark that it found, and its outcome)
abbrev pub Event : Type 0 → Type 0 → Type 0
Event V A = Call V × Entry A

-- the events of a list of calls and what was noted of each
abbrev pub history : {V A : Type 0} → List (Call V) → List (Entry A) → List (Event V A)
history [] ns = []
history (c ∷ cs) [] = []
history (c ∷ cs) (n ∷ ns) = (c, n) ∷ history cs ns

-- an accepted request
abbrev pub answered : {A : Type 0} → Outcome A → Bool
answered (Ok (Answer x)) = true
answered (Err f) = false
answered (Ok Done) = false
answered (Ok (Mark n)) = false
answered (Ok NotTaken) = false

-- accepted settling or close
abbrev pub done : {A : Type 0} → Outcome A → Bool
done (Ok (Answer x)) = false
done (Err f) = false
done (Ok Done) = true
done (Ok (Mark n)) = false
done (Ok NotTaken) = false

-- the number of accepted requests
abbrev pub accepted : {V A : Type 0} → List (Event V A) → ℕ
accepted [] = 0
accepted (e ∷ es) = cond (answered e.1.outcome) 1 0 + accepted es

-- the frame that a call hands on
abbrev pub frame_of : {V : Type 0} → Call V → Frame
frame_of (Request w f) = frame_or_none f
frame_of Settle = (0, 0)
frame_of KeepMark = (0, 0)
frame_of (Close n) = (0, 0)

-- the latest wanted frame that was accepted, or else `first`
abbrev pub last_frame : {V A : Type 0} → Bool → Frame → List (Event V A) → Frame
last_frame wants first [] = first
last_frame wants first (e ∷ es) = last_frame wants (cond (wants && answered e.1.outcome) (frame_of e.0) first) es

-- the total after a call, where it was t before
abbrev pub total_after : {V A : Type 0} → Option ℕ → Call V → Outcome A → Option ℕ
total_after t (Request w f) o = t
total_after t Settle o = t
total_after t KeepMark o = t
total_after t (Close n) o = cond (done o) (Some n) t

-- the total of the accepted close, or else t
abbrev pub total_of : {V A : Type 0} → Option ℕ → List (Event V A) → Option ℕ
total_of t [] = t
total_of t (e ∷ es) = total_of (total_after t e.0 e.1.outcome) es

-- the progress that the events so far make up
abbrev pub progress_at : {V A : Type 0} → Bool → Bool → List (Event V A) → Progress
progress_at wants from_zero before = record { from_zero = from_zero; next = accepted before; last = last_frame wants (0, 0) before }

-- past the other checks a request is answered or too early
abbrev pub Tried : {A : Type 0} → ℕ → Outcome A → Type 0
Tried i (Ok (Answer x)) = Unit {0}
Tried i (Err f) = f ≡ TooEarly i
Tried i (Ok Done) = ⊥
Tried i (Ok (Mark n)) = ⊥
Tried i (Ok NotTaken) = ⊥

-- refused by this check, or past the checks
abbrev pub ByTable : {A : Type 0} → Option Fault → ℕ → Outcome A → Type 0
ByTable (Some f) i o = o ≡ Err f
ByTable None i o = Tried i o

-- what a close comes to; a closed run does not take one
abbrev pub close_outcome : {A : Type 0} → Progress → Option ℕ → ℕ → Outcome A
close_outcome b None n = cond (unfit_total b n) (Err (BadTotal b.next)) (Ok Done)
close_outcome b (Some t) n = Ok NotTaken

-- The table: with these progress, this total and this keep mark a call has this outcome.
abbrev pub Ruled : {V A : Type 0} → Bool → Progress → Option ℕ → ℕ → Call V → Outcome A → Type 0
Ruled wants b t mark (Request w f) o = ByTable (refusal_at wants b t mark w f) b.next o
Ruled wants b t mark Settle o = o ≡ cond b.from_zero (Ok Done) (Err (NotFromZero b.next))
Ruled wants b t mark KeepMark o = o ≡ Ok (Mark mark)
Ruled wants b t mark (Close n) o = o ≡ close_outcome b t n

-- A request that was answered or too early at row i shows the partition's rows and, if frames are wanted and the partition has that row, its frame; an accepted close gives its length; what else is refused may show anything.
abbrev pub ShownBy : {V A : Type 0} → Bool → Partition V → ℕ → Call V → Outcome A → Type 0
ShownBy wants p i (Request w f) o = Tried i o → Shows p w.begin (shown w) × (T wants → i < length p.rows → f ≡ Some (frame_at p i))
ShownBy wants p i Settle o = Unit {0}
ShownBy wants p i KeepMark o = Unit {0}
ShownBy wants p i (Close n) o = T (done o) → length p.rows ≡ n

-- the history shows this partition
pub record Shown {V A : Type 0} (wants : Bool) (p : Partition V) (h : List (Event V A)) : Type 0 where
  pub framed : Framed wants p
  pub each : (before after : List (Event V A)) (e : Event V A) → h ≡ before ++ e ∷ after → ShownBy wants p (accepted before) e.0 e.1.outcome

-- Row by row as on the whole partition: what a request gives.
pub record Right {V A : Type 0} (m : Meaning V A) (p : Partition V) (wants : Bool) (b : Progress) (t : Option ℕ) (mark : ℕ) (w : Window V) (f : Option Frame) (o : Outcome A) : Type 0 where
  -- an accepted request gives the answer of the next row
  pub answer : (x : A) → o ≡ Ok (Answer x) → x ≡ m.answer p b.next
  -- a request past all other checks is too early exactly when the row is not settled
  pub early : refusal_at wants b t mark w f ≡ None → o ≡ Err (TooEarly b.next) → settles m p (end_of w) (is_total t (end_of w)) b.next ≡ false
  pub timely : refusal_at wants b t mark w f ≡ None → settles m p (end_of w) (is_total t (end_of w)) b.next ≡ false → o ≡ Err (TooEarly b.next)

-- what each call gives of a partition that is shown
abbrev pub AsWhole : {V A : Type 0} → Meaning V A → Partition V → Bool → Progress → Option ℕ → ℕ → Call V → Outcome A → Type 0
AsWhole m p wants b t mark (Request w f) o = Right m p wants b t mark w f o
AsWhole m p wants b t mark Settle o = Unit {0}
AsWhole m p wants b t mark KeepMark o = Unit {0}
AsWhole m p wants b t mark (Close n) o = Unit {0}

-- The keep mark that an event found is that of an evaluator of the same meaning that stands there.
pub record Marked {V A S : Type 0} (meaning : S → Meaning V A) (e : S) (p : Partition V) (i mark : ℕ) : Type 0 where
  pub at : S
  pub alike : Alike (meaning e) (meaning at)
  pub stands : (meaning at).stands p i
  pub keeps : mark ≡ (meaning at).keep

-- What holds of every history of a run made of the evaluator e, at each place where it splits into the events before one, that event and those after it.
pub record Replayed {V A S : Type 0} (meaning : S → Meaning V A) (e : S) (wants from_zero : Bool) (h : List (Event V A)) : Type 0 where
  -- each event obeys the table
  pub ruled : (before after : List (Event V A)) (x : Event V A) → h ≡ before ++ x ∷ after → Ruled wants (progress_at wants from_zero before) (total_of None before) x.1.mark x.0 x.1.outcome
  -- the keep mark never falls
  pub marks : (before between after : List (Event V A)) (x y : Event V A) → h ≡ before ++ x ∷ (between ++ y ∷ after) → x.1.mark ≤ y.1.mark
  -- for every partition that the history shows, each request gives what the whole partition has
  pub whole : (p : Partition V) → Shown wants p h → (before after : List (Event V A)) (x : Event V A) → h ≡ before ++ x ∷ after → AsWhole (meaning e) p wants (progress_at wants from_zero before) (total_of None before) x.1.mark x.0 x.1.outcome
  -- and the keep mark is one that an evaluator standing there has
  pub marked : (p : Partition V) → Shown wants p h → (before after : List (Event V A)) (x : Event V A) → h ≡ before ++ x ∷ after → Marked meaning e (based from_zero p) (accepted before) x.1.mark
