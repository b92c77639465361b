use Rattle.std.proofs.Common.{codes}
use Rattle.lines.proofs.Passed.{led}
use Rattle.replayed.proofs.calls.read_frame.Goals as goal

pub returns-clause-reads : goal.returns-clause-reads
returns-clause-reads c = (_, led c.args.cursor.now c.expect.new.self c.read.new.cursor (codes " ") c.expect.ensures.onward c.read.ensures.onward c.in_ok-expect.ensures.text, c.in_ok-read.ensures.reads)
