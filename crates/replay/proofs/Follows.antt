-- The evaluator of a run, by what each call of the history leaves of it.
use Rattle.std.proofs.Common.{◌≡◌, ℕ, Bool, List, [], ◌∷◌, ◌++◌, sym, ap, ◌∙◌, ⊎_elim}
use Rattle.std.proofs.lemmas.List.{append_assoc, append-nil}
use Rattle.replay.specs.declared.calls.Call.{Call}
use Rattle.replay.specs.declared.calls.Entry.{Entry}
use Rattle.run.specs.declared.progress.Progress.{Progress}
use Rattle.run.specs.declared.run.Run.{Run}
use Rattle.run.specs.Rows.{Stepping, Settling}
use Rattle.replay.specs.History.{Event, progress_at}
use Rattle.replay.specs.Act.{Followed, evaluator_of, progress_of, evaluator_after, held_from, held}
use Rattle.replay.proofs.Splits.{split_push, never_nil}

module _ {V A S : Type 0} (keep : S → ℕ) (step : Stepping S V) (settle : Settling S) (wants z : Bool) where
  -- one event more
  held_push : (before : List (Event V A)) (e : S) (xs : List (Event V A)) (y : Event V A) → held_from step settle wants z before e (xs ++ y ∷ []) ≡ evaluator_after step settle (progress_at wants z (before ++ xs)) y.0 y.1.outcome (held_from step settle wants z before e xs)
  held_push before e [] y = ap (λ b. evaluator_after step settle (progress_at wants z b) y.0 y.1.outcome e) (sym (append-nil before))
  held_push before e (x ∷ xs) y =
      let e' : S = evaluator_after step settle (progress_at wants z before) x.0 x.1.outcome e in
      held_push (before ++ x ∷ []) e' xs y ∙ ap (λ b. evaluator_after step settle (progress_at wants z b) y.0 y.1.outcome (held_from step settle wants z (before ++ x ∷ []) e' xs)) (append_assoc before (x ∷ []) xs)

  -- nothing called yet
  pub follow_start : (e : S) (s : Run S) → evaluator_of s ≡ e → Followed {A = A} keep step settle wants z e s []
  follow_start e s q = record { ends = q; marks = λ before after x p. absurd (never_nil before x after p) }

  -- one call more
  pub follow_more : (e : S) (s s' : Run S) (h : List (Event V A)) (c : Call V) (n : Entry A) → Followed keep step settle wants z e s h → progress_of s ≡ progress_at wants z h → n.mark ≡ keep (evaluator_of s) → evaluator_of s' ≡ evaluator_after step settle (progress_of s) c n.outcome (evaluator_of s) → Followed keep step settle wants z e s' (h ++ (c, n) ∷ [])
  follow_more e s s' h c n f b m l = record {
    ends = l ∙ (ap (λ (p : Progress). evaluator_after step settle p c n.outcome (evaluator_of s)) b ∙ (ap (λ (x : S). evaluator_after step settle (progress_at wants z h) c n.outcome x) f.ends ∙ sym (held_push [] e h (c, n))));
    marks = λ before after x p. ⊎_elim
        (λ q. ap (λ (y : Event V A). y.1.mark) (sym q.1) ∙ (m ∙ (ap keep f.ends ∙ ap (λ (b : List (Event V A)). keep (held step settle wants z e b)) q.0)))
        (λ q. f.marks before q.0 x q.1)
        (split_push h (c, n) before x after p);
  }
