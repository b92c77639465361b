-- For the proofs of evaluators that want no frames: a row call is the same whatever frame is handed over.
use Rattle.std.proofs.Common.{◌≡◌, ℕ, Bool, false, Result, sym, subst}
use Rattle.column.specs.declared.fault.Fault.{Fault}
use Rattle.column.specs.declared.column.Window.{Window}
use Rattle.partition.specs.Table.{Frame}
use Rattle.evaluator.specs.Meaning.{Meaning}
use Rattle.run.specs.Rows.{Handed, RowCall}

-- what a row call is handed, whatever the frame
handed_any : {V : Type 0} (mark : ℕ) (w : Window V) (f g : Frame) (known : Bool) → Handed false mark w f known → Handed false mark w g known
handed_any mark w f g known h = record { lengths = h.lengths; limited = h.limited; kept = h.kept; proper = λ t. absurd t; inside = λ t k. absurd t }

pub handed_turn : {V : Type 0} (mark : ℕ) (w v : Window V) (f g : Frame) (known k : Bool) → v ≡ w → k ≡ known → Handed false mark w f known → Handed false mark v g k
handed_turn mark w v f g known k ew ek h = subst (λ x. Handed false mark x g k) (sym ew) (subst (λ (x : Bool). Handed false mark w g x) (sym ek) (handed_any mark w f g known h))

any-frame : {V A S : Type 0} (meaning : S → Meaning V A) (i : ℕ) (w : Window V) (f g : Frame) (known : Bool) (e e' : S) (r : Result A Fault) → RowCall meaning false i w f known e e' r → RowCall meaning false i w g known e e' r
any-frame meaning i w f g known e e' r c = record {
  alike = c.alike;
  mark = c.mark;
  outcome = c.outcome;
  given = λ p q. c.given p (record { stands = q.stands; shows = q.shows; framed = q.framed; at_row = λ t. absurd t; ordered = q.ordered; total = q.total });
}

pub turn_call : {V A S : Type 0} (meaning : S → Meaning V A) (i j : ℕ) (w v : Window V) (f g : Frame) (known k : Bool) (e e' : S) (r : Result A Fault) → j ≡ i → v ≡ w → k ≡ known → RowCall meaning false j v g k e e' r → RowCall meaning false i w f known e e' r
turn_call meaning i j w v f g known k e e' r ei ew ek c = any-frame meaning i w g f known e e' r (subst (λ (x : Bool). RowCall meaning false i w g x e e' r) ek (subst (λ x. RowCall meaning false i x g k e e' r) ew (subst (λ (x : ℕ). RowCall meaning false x v g k e e' r) ei c)))
