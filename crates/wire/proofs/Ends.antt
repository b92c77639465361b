-- How calls end.
use Rattle.std.proofs.Common.{◌≡◌, ℕ, inl, inr, Option, Some, None, Result, Ok, Err, refl, sym, ap, ◌∙◌, subst, ⊎_elim}
use Rattle.column.specs.declared.fault.Fault.{Fault}
use Rattle.column.specs.Refusal.{passes, kept_or}
use Rattle.column.specs.Slots.{written}
use Rattle.evaluator.specs.Meaning.{WholeCall}
use Rattle.wire.specs.declared.stop.Stop.{Stop}
use Rattle.wire.specs.declared.stop.Stop.TheVariants.{Refused}
use Rattle.wire.specs.declared.stop.Told.{Told}
use Rattle.wire.specs.Stops.{first_of, refused, told, told_done}
use Rattle.wire.specs.Ends.{Ends, told_stop}

-- a check of the library that did not pass
not_passed : (a : Option Fault) (f : Fault) → Err f ≡ passes a → Some (Refused f) ≡ refused a
not_passed None f h = cc
not_passed (Some g) f h = cc

kept : {S : Type 0} (a : Option Fault) (f : Fault) (before left : S) → Err f ≡ passes a → kept_or a before left ≡ before
kept None f before left h = cc
kept (Some g) f before left h = refl

past : {S : Type 0} (a b : Option Stop) (before after : S) (s : Stop) (t : Result (Unit {0}) Stop) (good : Type 0) → a ≡ None → Some s ≡ b → t ≡ Err s → after ≡ before → Ends Err (first_of a b) before after t good
past None None before after s t good e q h k = cc
past None (Some u) before after s t good e q h k = inr (cc, k)
past (Some u) b before after s t good e q h k = cc

-- a call that a check of the library refuses
pub refused_last : {A S X : Type 0} (a : Option Stop) (refusal : X → Option Fault) (stored : S → ℕ → A → S) (answers : X → ℕ → A) (rows : X → ℕ) (x y : X) (before after : S) (r : Result (Unit {0}) Fault) (f : Fault) (t : Result (Unit {0}) Stop) (good : Type 0) → a ≡ None → x ≡ y → WholeCall stored (refusal x) (answers x) (rows x) before after r → r ≡ Err f → t ≡ Err (Refused f) → Ends Err (first_of a (refused (refusal y))) before after t good
refused_last a refusal stored answers rows x y before after r f t good e i c h k =
    let q : Err f ≡ passes (refusal x) = sym h ∙ c.outcome in
    subst (λ z. Ends Err (first_of a (refused (refusal z))) before after t good) i
    (past a (refused (refusal x)) before after (Refused f) t good e (not_passed (refusal x) f q) k (c.slots ∙ kept (refusal x) f before (written stored (answers x) before (rows x)) q))

-- what C is told of a call that ends so
pub done_told : {S : Type 0} (stop : Option Stop) (before after : S) (r : Result (Unit {0}) Stop) (t : Told) (left : Type 0) → t ≡ told_done r → Ends Err stop before after r ((r ≡ Ok tt) × left) → Ends told_stop stop before after t ((t ≡ told (Ok 0)) × left)
done_told (Some s) before after r t left e h = ⊎_elim (λ m. inl (e ∙ ap told_done m.0, m.1)) (λ g. inr (e ∙ ap told_done g.0, g.1)) h
done_told None before after r t left e h = ⊎_elim (λ m. inl (e ∙ ap told_done m.0, m.1)) (λ g. inr (e ∙ ap told_done g.0, g.1)) h
