-- One call on a run that is open or closed.
use Rattle.std.specs.Prelude.{◌≡◌, ℕ, Bool, cond, List, [], ◌∷◌, ◌++◌, Some, None, Ok, Err, Option, Result}
use Rattle.column.specs.declared.fault.Fault.{Fault}
use Rattle.run.specs.declared.progress.Progress.{Progress}
use Rattle.replay.specs.declared.calls.Call.{Call}
use Rattle.replay.specs.declared.calls.Call.TheVariants.{Request, Settle, KeepMark, Close}
use Rattle.replay.specs.declared.calls.Reply.TheVariants.{Answer, Done, Mark}
use Rattle.replay.specs.declared.calls.Entry.{Entry}
use Rattle.run.specs.declared.run.Run.{Run}
use Rattle.run.specs.declared.run.Run.TheVariants.{Opened, Shut}
use Rattle.evaluator.specs.Meaning.{Partition, Meaning, Alike}
use Rattle.run.specs.Rows.{Stepping, Settling}
use Rattle.run.specs.Run.{Requested, Settled, frame_or_none}
use Rattle.run.specs.Shown.{based}
use Rattle.replay.specs.History.{Outcome, Event, Shown, answered, done, accepted, progress_at, total_of, total_after, close_outcome}

-- the evaluator of a run
abbrev pub evaluator_of : {S : Type 0} → Run S → S
evaluator_of (Opened o) = o.evaluator
evaluator_of (Shut c) = c.evaluator

-- its setting, next row and last frame
abbrev pub progress_of : {S : Type 0} → Run S → Progress
progress_of (Opened o) = o.progress
progress_of (Shut c) = c.progress

-- its total, none while it is open
abbrev pub total_now : {S : Type 0} → Run S → Option ℕ
total_now (Opened o) = None
total_now (Shut c) = Some c.stage.0

-- what is noted of a request
abbrev pub noted : {A : Type 0} → Result A Fault → Outcome A
noted (Ok x) = Ok (Answer x)
noted (Err f) = Err f

-- what is noted of settling
abbrev pub noted_done : {A : Type 0} → Result (Unit {0}) Fault → Outcome A
noted_done (Ok x) = Ok Done
noted_done (Err f) = Err f

-- what a call does to the evaluator and the progress of a run with this total
abbrev pub Does : {V A S : Type 0} → (S → Meaning V A) → Bool → Option ℕ → Call V → S → S → Progress → Progress → Outcome A → Type 0
Does {A = A} meaning wants t (Request w f) e e' b b' o = (r : Result A Fault) × Requested meaning wants t w f e e' b b' r × (o ≡ noted r)
Does meaning wants t Settle e e' b b' o = (r : Result (Unit {0}) Fault) × Settled meaning wants b e e' r × (o ≡ noted_done r) × (b' ≡ b)
Does meaning wants t KeepMark e e' b b' o = (o ≡ Ok (Mark (meaning e).keep)) × (e' ≡ e) × (b' ≡ b)
Does meaning wants t (Close n) e e' b b' o = (o ≡ close_outcome b t n) × (e' ≡ e) × (b' ≡ b)

-- one call on a run: what is noted, and what it leaves
pub record Acted {V A S : Type 0} (meaning : S → Meaning V A) (wants : Bool) (c : Call V) (s s' : Run S) (n : Entry A) : Type 0 where
  pub mark : n.mark ≡ (meaning (evaluator_of s)).keep
  pub total : total_now s' ≡ total_after (total_now s) c n.outcome
  pub does : Does meaning wants (total_now s) c (evaluator_of s) (evaluator_of s') (progress_of s) (progress_of s') n.outcome

-- what a run of the evaluator e holds after this history
pub record Ended {V A S : Type 0} (meaning : S → Meaning V A) (e : S) (wants from_zero : Bool) (s : Run S) (h : List (Event V A)) : Type 0 where
  -- the accepted requests, the latest wanted frame and the setting
  pub progress : progress_of s ≡ progress_at wants from_zero h
  -- the total of the accepted close
  pub total : total_now s ≡ total_of None h
  pub alike : Alike (meaning e) (meaning (evaluator_of s))
  -- it stands at the next row of every partition that the history shows
  pub stands : (p : Partition V) → Shown wants p h → (meaning (evaluator_of s)).stands (based from_zero p) (accepted h)

-- what a call with this progress leaves of the evaluator: an accepted request steps it, accepted settling settles it
abbrev pub evaluator_after : {V A S : Type 0} → Stepping S V → Settling S → Progress → Call V → Outcome A → S → S
evaluator_after step settle b (Request w f) o e = cond (answered o) (step e b.next w (frame_or_none f)) e
evaluator_after step settle b Settle o e = cond (done o) (settle e b.next b.last) e
evaluator_after step settle b KeepMark o e = e
evaluator_after step settle b (Close n) o e = e

-- what a history leaves of the evaluator e that was there after the events before it
abbrev pub held_from : {V A S : Type 0} → Stepping S V → Settling S → Bool → Bool → List (Event V A) → S → List (Event V A) → S
held_from step settle wants from_zero before e [] = e
held_from step settle wants from_zero before e (x ∷ xs) = held_from step settle wants from_zero (before ++ x ∷ []) (evaluator_after step settle (progress_at wants from_zero before) x.0 x.1.outcome e) xs

-- what a history leaves of a new run's evaluator e
abbrev pub held : {V A S : Type 0} → Stepping S V → Settling S → Bool → Bool → S → List (Event V A) → S
held step settle wants from_zero e h = held_from step settle wants from_zero [] e h

-- the evaluator of a run is what the history leaves of the one that it began with, and each keep mark noted is that of what the events before leave
pub record Followed {V A S : Type 0} (keep : S → ℕ) (step : Stepping S V) (settle : Settling S) (wants from_zero : Bool) (e : S) (s : Run S) (h : List (Event V A)) : Type 0 where
  pub ends : evaluator_of s ≡ held step settle wants from_zero e h
  pub marks : (before after : List (Event V A)) (x : Event V A) → h ≡ before ++ x ∷ after → x.1.mark ≡ keep (held step settle wants from_zero e before)
