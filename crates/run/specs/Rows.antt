-- What a row call and settling do.
use Rattle.std.specs.Prelude.{◌≡◌, ℕ, ◌+◌, ◌<◌, ◌≤◌, Bool, true, false, T, length, Ok, Err, Result, MatchResult}
use Rattle.column.specs.declared.fault.Fault.{Fault}
use Rattle.column.specs.declared.fault.Fault.TheVariants.{TooEarly}
use Rattle.column.specs.declared.column.Window.{Window}
use Rattle.column.specs.Refusal.{row_limit}
use Rattle.partition.specs.Table.{Frame}
use Rattle.evaluator.specs.Meaning.{Partition, Meaning, Alike, settles}
use Rattle.run.specs.Shown.{Shows, Framed, FromZero, Ordered, shown, end_of, frame_at, frame_before}

-- what an accepted row call at a row leaves of an evaluator, with this window and frame
abbrev pub Stepping : Type 0 → Type 0 → Type 0
Stepping S V = S → ℕ → Window V → Frame → S

-- what settling at a row leaves of an evaluator, with the last frame
abbrev pub Settling : Type 0 → Type 0
Settling S = S → ℕ → Frame → S

-- what a call leaves: a refused one what was there
abbrev pub left_by : {X S : Type 0} → Result X Fault → S → S → S
left_by (Ok x) old new = new
left_by (Err f) old new = old

-- What a row call is handed, after the run's checks: keep mark, window, frame, and whether the window's end is known as the total.
pub record Handed {V : Type 0} (wants : Bool) (mark : ℕ) (w : Window V) (frame : Frame) (known : Bool) : Type 0 where
  pub lengths : length w.rows.values.now ≡ length w.rows.marks.now
  pub limited : end_of w ≤ row_limit
  pub kept : w.begin ≤ mark
  pub proper : T wants → frame.0 ≤ frame.1
  pub inside : T wants → T known → frame.1 ≤ end_of w

-- A row call at row i asks of a partition: the evaluator stands there, the window shows the partition's cells, and the frame is the partition's if frames are wanted and the partition has that row.
pub record Asks {V A : Type 0} (m : Meaning V A) (wants : Bool) (p : Partition V) (i : ℕ) (w : Window V) (frame : Frame) (known : Bool) : Type 0 where
  pub stands : m.stands p i
  pub shows : Shows p w.begin (shown w)
  pub framed : Framed wants p
  pub at_row : T wants → i < length p.rows → frame ≡ frame_at p i
  pub ordered : Ordered p (i + 1)
  pub total : T known → length p.rows ≡ end_of w

-- What it then gives: the answer, and it stands at the next row, if the row is settled; otherwise it is too early.
abbrev pub Given : {V A : Type 0} → Meaning V A → Meaning V A → Partition V → ℕ → Bool → Result A Fault → Type 0
Given m n p i true r = (r ≡ Ok (m.answer p i)) × n.stands p (i + 1)
Given m n p i false r = r ≡ Err (TooEarly i)

-- A row call at row i: the evaluator before and after it, and its result.
pub record RowCall {V A S : Type 0} (meaning : S → Meaning V A) (wants : Bool) (i : ℕ) (w : Window V) (frame : Frame) (known : Bool) (e e' : S) (r : Result A Fault) : Type 0 where
  pub alike : Alike (meaning e) (meaning e')
  pub mark : (meaning e).keep ≤ (meaning e').keep
  -- whatever it is shown: an answer is of a row below the window's end, and a refusal changes nothing
  pub outcome : MatchResult r (λ x. i < end_of w) (λ f. (f ≡ TooEarly i) × (e' ≡ e))
  pub given : (p : Partition V) → Asks (meaning e) wants p i w frame known → Given (meaning e) (meaning e') p i (settles (meaning e) p (end_of w) known i) r

-- Settling at row i, with the last frame: it keeps standing at each partition whose frames all begin at 0.
pub record SettleCall {V A S : Type 0} (meaning : S → Meaning V A) (wants : Bool) (i : ℕ) (last : Frame) (e e' : S) : Type 0 where
  pub alike : Alike (meaning e) (meaning e')
  pub mark : (meaning e).keep ≤ (meaning e').keep
  pub stands : (p : Partition V) → (meaning e).stands p i → Framed wants p → FromZero p → Ordered p i → last ≡ frame_before p i → (meaning e').stands p i
