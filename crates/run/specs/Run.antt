-- What each call on a run does: its outcome, and what it leaves.
use Rattle.std.specs.Prelude.{◌≡◌, ℕ, ◌+◌, ◌≤◌, Bool, false, cond, length, Some, None, Ok, Err, Option, Result, ◌==◌}
use Rattle.std.specs.Option.{unwrap_or}
use Rattle.column.specs.declared.fault.Fault.{Fault}
use Rattle.column.specs.declared.fault.Fault.TheVariants.{TooEarly, NotFromZero, BadTotal, Unanswered}
use Rattle.column.specs.declared.column.Window.{Window}
use Rattle.run.specs.declared.progress.Progress.{Progress}
use Rattle.run.specs.declared.run.Running.{Running}
use Rattle.run.specs.declared.stage.Unclosed.{Unclosed}
use Rattle.run.specs.declared.stage.Total.{Total}
use Rattle.evaluator.specs.Meaning.{Partition}
use Rattle.partition.specs.Table.{Frame}
use Rattle.run.specs.Shown.{end_of}
use Rattle.evaluator.specs.Meaning.{Meaning, Alike, settles}
use Rattle.run.specs.Rows.{Asks, Given, SettleCall}
use Rattle.run.specs.Table.{refusal, is_total, unfit_total}

-- the refusal of a request with this window
abbrev pub refusal_at : {V : Type 0} → Bool → Progress → Option ℕ → ℕ → Window V → Option Frame → Option Fault
refusal_at wants b total mark w frame = refusal wants b total mark w.begin (length w.rows.values.now) (length w.rows.marks.now) frame

-- the frame that a request hands on; one that is absent is not wanted
abbrev pub frame_or_none : Option Frame → Frame
frame_or_none f = unwrap_or f (0, 0)

-- the progress after an accepted request
abbrev pub advanced : Bool → Progress → Option Frame → Progress
advanced wants b frame = record { from_zero = b.from_zero; next = b.next + 1; last = cond wants (frame_or_none frame) b.last }

-- the outcome of a request that this check refuses, or none; a refusal changes nothing
abbrev pub OutcomeBy : {S A : Type 0} → Option Fault → Bool → Option Frame → S → S → Progress → Progress → Result A Fault → Type 0
OutcomeBy (Some f) wants frame e e' b b' r = (r ≡ Err f) × (e' ≡ e) × (b' ≡ b)
OutcomeBy None wants frame e e' b b' (Ok x) = b' ≡ advanced wants b frame
OutcomeBy None wants frame e e' b b' (Err f) = (f ≡ TooEarly b.next) × (e' ≡ e) × (b' ≡ b)

-- a request on a run: its evaluator and its progress before and after, its total, and the result
pub record Requested {V A S : Type 0} (meaning : S → Meaning V A) (wants : Bool) (total : Option ℕ) (w : Window V) (frame : Option Frame) (e e' : S) (b b' : Progress) (r : Result A Fault) : Type 0 where
  pub outcome : OutcomeBy (refusal_at wants b total (meaning e).keep w frame) wants frame e e' b b' r
  pub alike : Alike (meaning e) (meaning e')
  pub mark : (meaning e).keep ≤ (meaning e').keep
  pub given : refusal_at wants b total (meaning e).keep w frame ≡ None → (p : Partition V) → Asks (meaning e) wants p b.next w (frame_or_none frame) (is_total total (end_of w)) → Given (meaning e) (meaning e') p b.next (settles (meaning e) p (end_of w) (is_total total (end_of w)) b.next) r

-- settling a run
pub record Settled {V A S : Type 0} (meaning : S → Meaning V A) (wants : Bool) (b : Progress) (e e' : S) (r : Result (Unit {0}) Fault) : Type 0 where
  pub outcome : r ≡ cond b.from_zero (Ok tt) (Err (NotFromZero b.next))
  pub refused : b.from_zero ≡ false → e' ≡ e
  pub settles : SettleCall meaning wants b.next b.last e e'

-- closing an open run, which is handed back where the total is refused
abbrev pub closing : {S : Type 0} → Running S Unclosed → ℕ → Result (Running S Total) (Fault × Running S Unclosed)
closing o n = cond (unfit_total o.progress n) (Err (BadTotal o.progress.next, o)) (Ok (record { evaluator = o.evaluator; progress = o.progress; stage = record { 0 = n } }))

-- finishing a closed run, which is handed back where rows are unanswered
abbrev pub finishing : {S : Type 0} → Running S Total → Result (S × ℕ) (Fault × Running S Total)
finishing c = cond (c.progress.next == c.stage.0) (Ok (c.evaluator, c.stage.0)) (Err (Unanswered c.progress.next, c))
