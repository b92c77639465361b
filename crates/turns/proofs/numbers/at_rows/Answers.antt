use Rattle.std.proofs.Common.{rules, arith, ◌≡◌, length}
use Rattle.turns.proofs.Placed.{placed_done, placed_more}
use Rattle.turns.proofs.numbers.at_rows.Goals as goal

pub loop-i-preserved : goal.loop-i-preserved
loop-i-preserved g c = placed_more c.args.keys.now c.args.numbers.now c.loop-i.placed.items _ c.loop-i.i c.index-keys-i.result c.loop-i-test.true (c.requires.rows c.loop-i.i c.index-keys-i.result c.loop-i-test.true) c.loop-i.invariant (search rules)

pub returns : goal.returns
returns g c = let all : c.loop-i.i ≡ length c.args.keys.now = omega arith in placed_done c.args.keys.now c.args.numbers.now c.loop-i.placed.items c.loop-i.i c.loop-i.invariant all
