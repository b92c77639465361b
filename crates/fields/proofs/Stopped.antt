-- A call that a check refuses.
use Rattle.std.proofs.Common.{◌≡◌, ℕ, Option, Some, None, Result, Err, sym, ap, ◌∙◌}
use Rattle.column.specs.declared.fault.Fault.{Fault}
use Rattle.column.specs.Refusal.{passes}

failed : (refusal : Option Fault) (f : Fault) → Err f ≡ passes refusal → refusal ≡ Some f
failed None f e = absurd (cc)
failed (Some g) f e = cc

pub stopped : (refusal : ℕ → Option Fault) (slots n : ℕ) (r : Result (Unit {0}) Fault) (f : Fault) → r ≡ passes (refusal slots) → r ≡ Err f → slots ≡ n → refusal n ≡ Some f
stopped refusal slots n r f is e s = ap refusal (sym s) ∙ failed (refusal slots) f (sym e ∙ is)
