-- The laws of the two codings.
use Rattle.std.specs.Prelude.{◌≡◌, ℕ, zero, suc, Bool, true, false, cond, not, ◌==◌, List, [], ◌∷◌, length, position, None, Some, Option, refl}
use Rattle.std.proofs.Common.{sym, ap, arith}
use Rattle.std.proofs.lemmas.Bool.{le-ltb, lt-ltb, eqb-true}
use Rattle.std.proofs.lemmas.List.{map-id}
use Rattle.std.specs.List.{prefix_len}
use Rattle.column.specs.declared.kind.LoginOutcome.{LoginOutcome}
use Rattle.column.specs.declared.kind.LoginOutcome.TheVariants.{Granted, Refused, TimedOut}
use Rattle.wire.specs.declared.kinds.OutcomeNumbers.{OutcomeNumbers}
use Rattle.wire.specs.Outcomes.{numbers_of, flawed, outcome_of}
use Rattle.wire.specs.Kinds.{CodingLaws, plain_coding, outcome_coding}

all_pass : {V : Type 0} (vs : List V) → prefix_len (λ (v : V). true) vs ≡ length vs
all_pass [] = refl
all_pass (v ∷ vs) = omega (arith, all_pass vs)

no_flaw : {V : Type 0} (vs : List V) → ◌≡◌ {A = Option ℕ} None (position (λ (v : V). false) vs)
no_flaw {V} vs =
    let n = prefix_len (λ (v : V). true) vs in
    sym (ap (λ b. cond b (Some n) None) (le-ltb n (length vs) (omega (arith, all_pass vs))))

pub plain_lawful : {V : Type 0} → CodingLaws {V = V} {N = V} plain_coding
plain_lawful = record { fine = λ v. refl; back = λ v. refl; only = λ n e. refl; flaws = no_flaw; decodes = λ vs. sym (map-id vs) }

fine : (v : LoginOutcome) → flawed (numbers_of v) ≡ false
fine Granted = refl
fine (Refused r) = refl
fine TimedOut = refl

back : (v : LoginOutcome) → outcome_of (numbers_of v) ≡ v
back Granted = refl
back (Refused r) = refl
back TimedOut = refl

not_false : (b : Bool) → not b ≡ false → b ≡ true
not_false true e = refl
not_false false e = cc

abbrev numbers : ℕ → ℕ → OutcomeNumbers
numbers t r = record { tag = t; reason = r }

only_numbers : (t r : ℕ) → flawed (numbers t r) ≡ false → numbers_of (outcome_of (numbers t r)) ≡ numbers t r
only_numbers zero r e = ap (numbers 0) (sym (eqb-true r 0 (not_false (r == 0) e)))
only_numbers (suc zero) r e = refl
only_numbers (suc (suc zero)) r e = ap (numbers 2) (sym (eqb-true r 0 (not_false (r == 0) e)))
only_numbers (suc (suc (suc t))) r e = let h = lt-ltb 2 (suc (suc (suc t))) (omega arith) in let f = rw h at e in cc

pub outcome_lawful : CodingLaws outcome_coding
outcome_lawful = record { fine = fine; back = back; only = λ n e. only_numbers n.tag n.reason e; flaws = λ ns. refl; decodes = λ ns. refl }
