-- What C is told of a run.
use Rattle.std.proofs.Common.{◌≡◌, inl, inr, Option, Some, None, Result, Ok, Err, MatchResult, ap, ◌∙◌, subst, ⊎_elim}
use Rattle.wire.specs.declared.stop.Stop.{Stop}
use Rattle.wire.specs.declared.stop.Stop.TheVariants.{Memory}
use Rattle.wire.specs.declared.stop.Told.{Told}
use Rattle.wire.specs.declared.function.Function.{Function}
use Rattle.wire.specs.declared.runs.Noted.{Noted}
use Rattle.wire.specs.Stops.{told}
use Rattle.wire.specs.Ends.{Ends, told_stop}
use Rattle.wire.specs.Runs.{ending_left}

module _ {S X : Type 0} (before after : S) (f : Function) (e e' : Noted) (t : Told) (Of : X → Type 0) (Made : X → Noted → Type 0) where
  abbrev pub Writes : Result Noted Stop → Type 0
  Writes r = MatchResult r (λ last. (t ≡ told (Ok 0)) × (e' ≡ ending_left f last e)) (λ s. (t ≡ told_stop s) × (e' ≡ e))

  abbrev pub Good : Type 0
  Good = (t ≡ told (Ok 0)) × ((calls : X) × (last : Noted) × Of calls × Made calls last × (e' ≡ ending_left f last e))

  stopped_so : (s : Stop) (r : Result Noted Stop) → Writes r → r ≡ Err s → after ≡ before → (t ≡ told_stop s) × ◌≡◌ {A = S × Noted} (after, e') (before, e)
  stopped_so s r w q k = let v = subst Writes q w in (v.0, ap (λ z. (z, e')) k ∙ ap (λ z. (before, z)) v.1)

  pub run_told : (stop : Option Stop) (r : Result Noted Stop) → Writes r → Ends Err stop before after r ((last : Noted) × (r ≡ Ok last) × ((calls : X) × Of calls × Made calls last)) → Ends {S = S × Noted} told_stop stop (before, e) (after, e') t Good
  run_told (Some s) r w h = ⊎_elim (λ m. inl (stopped_so Memory r w m.0 m.1)) (λ g. inr (stopped_so s r w g.0 g.1)) h
  run_told None r w h = ⊎_elim
      (λ m. inl (stopped_so Memory r w m.0 m.1))
      (λ (last, q, (calls, of, made)). let v = subst Writes q w in inr (v.0, (calls, last, of, made, v.1)))
      h
