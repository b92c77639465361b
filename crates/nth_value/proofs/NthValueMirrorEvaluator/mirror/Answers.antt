use Rattle.std.proofs.Common.{◌≡◌, ◌-◌, Bool, true, false, ℤ, sym, refl, ap, ◌∙◌, subst, w64, SFits}
use Rattle.partition.specs.Table.{row_count}
use Rattle.evaluator.specs.Meaning.{partition}
use Rattle.evaluator.specs.Mirror.{Mirror, turned}
use Rattle.evaluator.proofs.Opposites.{opposite_twice}
use Rattle.evaluator.proofs.Turned.{turned-accepted}
use Rattle.nth_value.specs.declared.kind.NthValueKind.{NthValueKind}
use Rattle.nth_value.specs.declared.kind.NthValueKind.TheVariants.{First, Last, Nth}
use Rattle.nth_value.specs.declared.NthValue.{NthValue}
use Rattle.nth_value.specs.Frames.{pick_of}
use Rattle.nth_value.specs.Nth.{nth_meaning, nth_renewed, nth_mirrored, turned_kind, new_of}
use Rattle.nth_value.proofs.Holds.{fresh_holds}
use Rattle.nth_value.proofs.Turned.{nth-turned}
use Rattle.nth_value.proofs.NthValueMirrorEvaluator.mirror.Goals as goal

kind_twice : (kind : NthValueKind) → ((z : ℤ) → kind ≡ Nth z → SFits w64 z) → turned_kind (turned_kind kind) ≡ kind
kind_twice First f = refl
kind_twice Last f = refl
kind_twice (Nth z) f = ap Nth (opposite_twice z (f z refl))

module _ {V : Type 0} (same : V → V → Bool) (e : NthValue V) (f : (z : ℤ) → e.kind ≡ Nth z → SFits w64 z) where
  mirrors : (r : NthValue V) → r ≡ nth_mirrored e → Mirror same true false nth_meaning nth_renewed nth_mirrored e r
  mirrors r q = record {
    is = q;
    twice = ap (λ (k : NthValueKind). new_of k e.ignore_nulls) (kind_twice e.kind f);
    fresh = λ p. subst (λ (s : NthValue V). (nth_meaning s).stands p 0) (sym q) (fresh_holds (pick_of (turned_kind e.kind)) e.ignore_nulls p);
    accepted = turned-accepted same true false;
    answers = λ x size ok i h. subst (λ (s : NthValue V). (nth_meaning s).answer (partition true (turned same x)) (row_count x - 1 - i) ≡ (nth_meaning e).answer (partition true x) i) (sym q) (nth-turned same e.kind e.ignore_nulls f x size ok i h);
  }

pub returns : goal.returns
returns g c = mirrors g.K.Kind.same c.args.self.now c.turned.ensures.fits c.new.result (c.new.ensures.is ∙ ap (λ (k : NthValueKind). new_of k c.args.self.now.ignore_nulls) c.turned.ensures.is)
