use Rattle.std.proofs.Common.{◌≡◌, ◌-◌, Bool, false, ℤ, sym, ap, subst, w64, SFits}
use Rattle.partition.specs.Table.{row_count}
use Rattle.evaluator.specs.Meaning.{partition}
use Rattle.evaluator.specs.Mirror.{Mirror, turned}
use Rattle.evaluator.proofs.Turned.{turned-accepted, rows-turned}
use Rattle.lead_lag.specs.declared.WindowShift.{WindowShift}
use Rattle.evaluator.specs.Arguments.{opposite}
use Rattle.evaluator.proofs.Opposites.{opposite_twice}
use Rattle.lead_lag.specs.Offset.{way_of}
use Rattle.lead_lag.specs.Shift.{shift_meaning, shift_mirrored, shift_renewed, shifted}
use Rattle.present.specs.Counting.{start}
use Rattle.lead_lag.proofs.Holds.{fresh_holds}
use Rattle.lead_lag.proofs.Turned.{shifted-turned}
use Rattle.lead_lag.proofs.WindowShiftMirrorEvaluator.mirror.Goals as goal

module _ {V : Type 0} (same : V → V → Bool) (e : WindowShift V) (f : SFits w64 e.shift_offset) where
  mirrors : (r : WindowShift V) → r ≡ shift_mirrored e → Mirror same false false shift_meaning shift_renewed shift_mirrored e r
  mirrors r q = record {
    is = q;
    twice = ap (λ (z : ℤ). record { shift_offset = z; ignore_nulls = e.ignore_nulls; default_value = e.default_value; held = start }) (opposite_twice e.shift_offset f);
    fresh = λ p. subst (λ (s : WindowShift V). (shift_meaning s).stands p 0) (sym q) (fresh_holds (way_of (opposite e.shift_offset)) e.ignore_nulls p.rows);
    accepted = turned-accepted same false false;
    answers = λ x size ok i h. subst (λ (s : WindowShift V). (shift_meaning s).answer (partition false (turned same x)) (row_count x - 1 - i) ≡ (shift_meaning e).answer (partition false x) i) (sym q) (rows-turned same false false (shifted (way_of e.shift_offset) e.ignore_nulls e.default_value) (shifted (way_of (opposite e.shift_offset)) e.ignore_nulls e.default_value) (λ cs i h l. shifted-turned e.shift_offset e.ignore_nulls e.default_value cs i f h l) x size ok i h);
  }

pub returns : goal.returns
returns g c = mirrors g.K.Kind.same c.args.self.now c.turned.ensures.fits c.turned.result c.turned.ensures.is
