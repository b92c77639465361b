-- A mirror's call, by the evaluator's answers.
use Rattle.std.proofs.Common.{◌≡◌, ℕ, zero, suc, ◌-◌, ◌<◌, Bool, None, Ok, Option, Result, refl, ap, ◌∙◌, arith}
use Rattle.std.proofs.lemmas.List.{length-reverse}
use Rattle.column.specs.declared.fault.Fault.{Fault}
use Rattle.column.specs.Refusal.{passes, kept_or}
use Rattle.partition.specs.Table.{Input, row_count, whole_refusal}
use Rattle.column.specs.Slots.{written}
use Rattle.evaluator.specs.Meaning.{Meaning, WholeCall, partition}
use Rattle.evaluator.specs.Mirror.{Mirror, Mirrored, turned}

pub written_same : {S A : Type 0} (put : S → ℕ → A → S) (f g : ℕ → A) (s : S) (n : ℕ) → ((j : ℕ) → j < n → f j ≡ g j) → written put f s n ≡ written put g s n
unfolding written
written_same put f g s zero h = refl
written_same put f g s (suc n) h = ap (λ t. put t n (f n)) (written_same put f g s n (λ j l. h j (omega arith))) ∙ ap (put (written put g s n) n) (h n (omega arith))

done : {A S : Type 0} (stored : S → ℕ → A → S) (refusal : Option Fault) (answers : ℕ → A) (n : ℕ) (s t : S) (r : Result (Unit {0}) Fault) → refusal ≡ None → WholeCall stored refusal answers n s t r → (r ≡ Ok tt) × (t ≡ written stored answers s n)
done stored refusal answers n s t r e c = (c.outcome ∙ ap passes e, c.slots ∙ ap (λ (x : Option Fault). kept_or x s (written stored answers s n)) e)

pub mirrored_call : {V A E S : Type 0} (same : V → V → Bool) (wf wg : Bool) (meaning : E → Meaning V A) (renewed mirrored : E → E) (e m : E) → Mirror same wf wg meaning renewed mirrored e m → (stored : S → ℕ → A → S) (x y : Input V) (size : ℕ) (s t : S) (r : Result (Unit {0}) Fault) → y ≡ turned same x → WholeCall stored (whole_refusal same wf wg y size) ((meaning m).answer (partition wf y)) (row_count y) s t r → Mirrored stored (whole_refusal same wf wg x size) ((meaning e).answer (partition wf x)) (row_count x) s t r
mirrored_call {V} same wf wg meaning renewed mirrored e m law stored x y size s t r q c ok =
    let n = row_count x in
    let ok' : whole_refusal same wf wg y size ≡ None = ap (λ (z : Input V). whole_refusal same wf wg z size) q ∙ law.accepted x size ok in
    let d = done stored (whole_refusal same wf wg y size) ((meaning m).answer (partition wf y)) (row_count y) s t r ok' c in
    let long : row_count y ≡ n = ap (λ (z : Input V). row_count z) q ∙ length-reverse x.values in
    let at : (j : ℕ) → j < n → (meaning m).answer (partition wf y) j ≡ (meaning e).answer (partition wf x) (n - 1 - j) = λ j h.
    let back : j ≡ n - 1 - (n - 1 - j) = omega arith in
    ap (λ (z : Input V). (meaning m).answer (partition wf z) j) q ∙ ap ((meaning m).answer (partition wf (turned same x))) back ∙ law.answers x size ok (n - 1 - j) (omega arith) in
    (d.0, d.1 ∙ ap (written stored ((meaning m).answer (partition wf y)) s) long ∙ written_same stored ((meaning m).answer (partition wf y)) (λ j. (meaning e).answer (partition wf x) (n - 1 - j)) s n at)
