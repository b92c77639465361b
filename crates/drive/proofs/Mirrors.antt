-- The text of a call of a mirror.
use Rattle.std.proofs.Common.{◌≡◌, ℕ, Bool, List, Result, Ok, Err, MatchResult, ap}
use Rattle.column.specs.declared.fault.Fault.{Fault}
use Rattle.partition.specs.Table.{Input}
use Rattle.evaluator.specs.Meaning.{Meaning}
use Rattle.drive.specs.Whole.{made_text}

pub mirror_text : {E V A : Type 0} (same : V → V → Bool) (answer_text : A → List ℕ) (wants_frames wants_groups : Bool) (meaning : E → Meaning V A) (mirrored : E → E) (made r : Result E Fault) (x : Input V) (slots : ℕ) → MatchResult made (λ e. r ≡ Ok (mirrored e)) (λ f. r ≡ Err f) → made_text same answer_text wants_frames wants_groups meaning r x slots ≡ made_text same answer_text wants_frames wants_groups (λ e. meaning (mirrored e)) made x slots
mirror_text same answer_text wants_frames wants_groups meaning mirrored (Ok e) r x slots is = ap (λ made. made_text same answer_text wants_frames wants_groups meaning made x slots) is
mirror_text same answer_text wants_frames wants_groups meaning mirrored (Err f) r x slots is = ap (λ made. made_text same answer_text wants_frames wants_groups meaning made x slots) is
