-- Which call an operation makes.
use Rattle.std.specs.Prelude.{◌≡◌, ℕ, ◌<◌, List, get_or, vec_items, Option, slice_index_or}
use Rattle.column.specs.declared.column.Window.{Window}
use Rattle.replay.specs.declared.calls.Call.{Call}
use Rattle.replay.specs.declared.calls.Call.TheVariants as call
use Rattle.drive.specs.declared.ops.Request.{Request}
use Rattle.drive.specs.declared.ops.Step.{Step}
use Rattle.drive.specs.declared.ops.Op.{Op}
use Rattle.drive.specs.declared.ops.Op.TheVariants as op

-- a request with the same rows
abbrev pub Asks : {K : Type 0} → Request K → Window K → Option (ℕ × ℕ) → Type 0
Asks q w f = (w.begin ≡ q.begin) × (w.rows.values.now ≡ vec_items q.column.values) × (w.rows.marks.now ≡ vec_items q.column.marks) × (f ≡ q.frame)

-- in the place of a finish the mark is read
abbrev pub Stands : {K : Type 0} → Op K → Call K → Type 0
Stands (op.Request q) c = elim c [ call.Request w f ↦ Asks q w f | call.Settle ↦ ⊥ | call.KeepMark ↦ ⊥ | call.Close n ↦ ⊥ ]
Stands op.Settle c = c ≡ call.Settle
Stands op.KeepMark c = c ≡ call.KeepMark
Stands (op.Close n) c = c ≡ call.Close n
Stands op.Finish c = c ≡ call.KeepMark

-- each of the first n operations makes the call at its place
abbrev pub AllStand : {K : Type 0} → List (Step K) → List (Call K) → ℕ → Type 0
AllStand {K} steps calls n = (k : ℕ) (s : Step K) (c : Call K) → k < n → Stands (get_or steps k s).op (slice_index_or calls k c)
