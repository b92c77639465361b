use Rattle.lines.proofs.Passed.{enclosed}
use Rattle.lines.proofs.values.PairText.read.Goals as goal

pub returns-clause-reads : goal.returns-clause-reads
returns-clause-reads g c =
    (_, _, enclosed c.args.cursor.now c.expect.new.self c.read.new.cursor c.expect-2.new.self c.read-2.new.cursor c.expect-3.new.self _ _ _ c.expect.ensures.onward c.read.ensures.onward c.expect-2.ensures.onward c.read-2.ensures.onward c.expect-3.ensures.onward c.in_ok-expect.ensures.text c.in_ok-expect-2.ensures.text c.in_ok-expect-3.ensures.text, c.in_ok-first.ensures.reads, c.in_ok-second.ensures.reads)
