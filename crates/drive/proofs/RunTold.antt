-- The text of a run, told operation by operation.
use Rattle.std.proofs.Common.{◌≡◌, ℕ, ◌+◌, List, [], ◌∷◌, ◌++◌, codes, ap, refl, sym, subst, ◌∙◌}
use Rattle.std.proofs.lemmas.List.{append_assoc}
use Rattle.replay.specs.declared.calls.Entry.{Entry}
use Rattle.replay.specs.History.{Outcome}
use Rattle.drive.specs.declared.ops.Step.{Step}
use Rattle.drive.specs.declared.ops.Op.{Op}
use Rattle.drive.specs.Runs.{TellsSteps}

module _ {V A : Type 0} (Tells : ℕ → Op V → Outcome A → List ℕ → Type 0) where
  -- one more operation is told, where the text of those before it goes on to that of all
  pub tells_one : (i next : ℕ) (s : Step V) (left steps all : List (Step V)) (entry : Entry A) (noted entries every : List (Entry A)) (outcome old new : List ℕ) → left ≡ s ∷ steps → noted ≡ entry ∷ entries → next ≡ i + 1 → Tells i s.op entry.outcome outcome → new ≡ old ++ (codes " " ++ (s.text.now ++ (codes ">" ++ outcome))) → ((rest : List ℕ) → TellsSteps Tells i left noted rest → TellsSteps Tells 0 all every (old ++ rest)) → (rest : List ℕ) → TellsSteps Tells next steps entries rest → TellsSteps Tells 0 all every (new ++ rest)
  tells_one i next s left steps all entry noted entries every outcome old new is_left is_noted is_next tells written goes rest h =
      let line : List ℕ = codes " " ++ (s.text.now ++ (codes ">" ++ outcome)) in
      let split : line ++ rest ≡ codes " " ++ (s.text.now ++ (codes ">" ++ (outcome ++ rest))) = ap (λ t. codes " " ++ t) (append_assoc s.text.now (codes ">" ++ outcome) rest) in
      let more : TellsSteps Tells i (s ∷ steps) (entry ∷ entries) (line ++ rest) = (outcome, rest, split, tells, subst (λ n. TellsSteps Tells n steps entries rest) is_next h) in
      let all_left = subst (λ l. TellsSteps Tells i l noted (line ++ rest)) (sym is_left) (subst (λ l. TellsSteps Tells i (s ∷ steps) l (line ++ rest)) (sym is_noted) more) in
      subst (TellsSteps Tells 0 all every) (sym (ap (λ t. t ++ rest) written ∙ append_assoc old line rest)) (goes (line ++ rest) all_left)

  -- where none is left, nothing is
  pub tells_none : (i : ℕ) (left : List (Step V)) (noted : List (Entry A)) → left ≡ [] → TellsSteps Tells i left noted []
  tells_none i left noted e = subst (λ l. TellsSteps Tells i l noted []) (sym e) refl
