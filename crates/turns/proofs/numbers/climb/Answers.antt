use Rattle.std.proofs.Common.{arith, ◌≡◌, length}
use Rattle.std.proofs.lemmas.Cmp.{on_total}
use Rattle.turns.specs.Keys.{key_cmp}
use Rattle.turns.proofs.Climbs.{climb_done, climb_step}
use Rattle.turns.proofs.numbers.climb.Goals as goal

pub loop-i-preserved : goal.loop-i-preserved
loop-i-preserved g c = climb_step {cmp = key_cmp g.K.Ord.cmp} (on_total (λ p. p.0) g.met.K.Ord.total) c.args.keys.now c.loop-i.i c.saturating_sub.result c.index-keys-saturating_sub.result c.index-keys-i.result c.loop-i.numbers.items c.loop-i.number c.rise-number.result c.push.new.self.items c.loop-i.invariant c.in_ok-push.ensures.items c.loop-i-test.true c.requires c.saturating_sub.ensures c.rise-number.ensures

pub returns : goal.returns
returns g c = let all : c.loop-i.i ≡ length c.args.keys.now = omega arith in climb_done (key_cmp g.K.Ord.cmp) c.args.keys.now c.loop-i.i c.loop-i.numbers.items c.loop-i.number c.loop-i.invariant all
