-- A run under way: what its loop holds after each call, whoever makes the calls.
use Rattle.std.proofs.Common.{◌≡◌, Bool, List, [], ◌∷◌, ◌++◌, None, subst}
use Rattle.replay.specs.declared.calls.Call.{Call}
use Rattle.replay.specs.declared.calls.Entry.{Entry}
use Rattle.run.specs.declared.run.Run.{Run}
use Rattle.run.specs.Rows.{Stepping, Settling}
use Rattle.evaluator.specs.Meaning.{Partition, Meaning, Alike, Laws}
use Rattle.replay.specs.History.{Event, Replayed}
use Rattle.replay.specs.Act.{Acted, Ended, Followed, evaluator_of, progress_of, total_now, evaluator_after}
use Rattle.replay.proofs.Steps.{alike_refl}
use Rattle.replay.proofs.Holds.{Stands, start, moves, ends}
use Rattle.replay.proofs.Follows.{follow_start, follow_more}

-- a run that was made of the evaluator d with the setting z, after this history
pub record Going {V A S : Type 0} (meaning : S → Meaning V A) (step : Stepping S V) (settle : Settling S) (renewed : S → S) (d : S) (wants z : Bool) (s : Run S) (h : List (Event V A)) : Type 0 where
  pub alike : Alike (meaning d) (meaning (renewed d))
  pub stands : Stands meaning (renewed d) wants z s h
  pub follows : Followed (λ e. (meaning e).keep) step settle wants z (renewed d) s h

module _ {V A S : Type 0} (meaning : S → Meaning V A) (step : Stepping S V) (settle : Settling S) (renewed : S → S) (d : S) (wants z : Bool) where
  -- nothing called yet
  pub going_start : (s : Run S) → evaluator_of s ≡ renewed d → progress_of s ≡ record { from_zero = z; next = 0; last = (0, 0) } → total_now s ≡ None → Alike (meaning d) (meaning (evaluator_of s)) → ((p : Partition V) → (meaning (evaluator_of s)).stands p 0) → Going meaning step settle renewed d wants z s []
  going_start s e b t a st = record {
    alike = subst (λ (x : S). Alike (meaning d) (meaning x)) e a;
    stands = record {
      progress = b;
      total = t;
      holds = start meaning (renewed d) wants z (evaluator_of s) (subst (λ (x : S). Alike (meaning x) (meaning (evaluator_of s))) e (alike_refl (meaning (evaluator_of s)))) st;
    };
    follows = follow_start (λ (x : S). (meaning x).keep) step settle wants z (renewed d) s e;
  }

  -- one call more
  pub going_more : ((e : S) → Laws (meaning e)) → (s s' : Run S) (h : List (Event V A)) (c : Call V) (n : Entry A) → Going meaning step settle renewed d wants z s h → Acted meaning wants c s s' n → evaluator_of s' ≡ evaluator_after step settle (progress_of s) c n.outcome (evaluator_of s) → Going meaning step settle renewed d wants z s' (h ++ (c, n) ∷ [])
  going_more law s s' h c n g a l = record {
    alike = g.alike;
    stands = moves meaning law (renewed d) wants z s s' h c n g.stands a;
    follows = follow_more (λ (x : S). (meaning x).keep) step settle wants z (renewed d) s s' h c n g.follows g.stands.progress a.mark l;
  }

  -- what holds of all of it
  pub going_ends : (s : Run S) (h : List (Event V A)) → Going meaning step settle renewed d wants z s h → Replayed meaning d wants z h × Ended meaning d wants z s h × Followed (λ e. (meaning e).keep) step settle wants z (renewed d) s h
  going_ends s h g = let law = ends meaning d (renewed d) wants z s h g.alike g.stands in (law.0, law.1, g.follows)
