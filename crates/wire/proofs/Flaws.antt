-- Lists of calls in bytes, one by one.
use Rattle.std.proofs.Common.{◌≡◌, ℕ, ◌+◌, ◌<◌, zero, suc, Bool, List, [], ◌∷◌, length, drop, get_or, Option, Some, None, refl, arith}
use Rattle.wire.specs.Calls.{call_flaw, flaw_at, flaw_from}

-- the first k calls are without a flaw
abbrev pub Passed : {V : Type 0} → List V → List Bool → Option ℕ → List (List ℕ) → ℕ → Type 0
Passed vs ms rest cs k = flaw_from vs ms rest 0 cs ≡ flaw_from vs ms rest k (drop k cs)

both_none : (k : ℕ) (x next : Option ℕ) → flaw_at k x next ≡ None → (x ≡ None) × (next ≡ None)
both_none k None next e = (refl, e)
both_none k (Some byte) next e = cc

-- a call of a list without a flaw has none
pub no_flaw : {V : Type 0} (vs : List V) (ms : List Bool) (j : ℕ) (cs : List (List ℕ)) (k : ℕ) → flaw_from vs ms None j cs ≡ None → k < length cs → call_flaw vs ms (get_or cs k []) ≡ None
no_flaw vs ms j [] k e h = absurd (omega arith)
no_flaw vs ms j (c ∷ cs) zero e h = (both_none j (call_flaw vs ms c) (flaw_from vs ms None (j + 1) cs) e).0
no_flaw vs ms j (c ∷ cs) (suc k) e h = no_flaw vs ms (j + 1) cs k (both_none j (call_flaw vs ms c) (flaw_from vs ms None (j + 1) cs) e).1 (omega arith)
