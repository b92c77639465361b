-- The laws of a kind's sameness, by those of `==`.
use Rattle.std.proofs.Common.{◌≡◌, Bool, true, false, T, sym, refl, ◌∙◌, subst}
use Rattle.std.specs.Cmp.{IsEquivalence}

pub record Sameness {V : Type 0} (same : V → V → Bool) : Type 0 where
  pub reflexive : (x : V) → T (same x x)
  pub symmetric : (x y : V) → T (same x y) → T (same y x)
  pub transitive : (x y z : V) → T (same x y) → T (same y z) → T (same x z)

pub holds : (b : Bool) → T b → b ≡ true
holds true h = refl
holds false h = absurd h

pub sameness : {V : Type 0} (eq same : V → V → Bool) → IsEquivalence eq → ((x y : V) → eq x y ≡ same x y) → Sameness same
sameness eq same laws tested = record {
  reflexive = λ x. subst T (sym (laws.refl x) ∙ tested x x) tt;
  symmetric = λ x y h. subst T (sym (tested x y) ∙ laws.symm x y ∙ tested y x) h;
  transitive = λ x y z h k. subst T (sym (tested y z) ∙ sym (laws.congr x y z (tested x y ∙ holds (same x y) h)) ∙ tested x z) k;
}
