use Rattle.std.proofs.Common.{◌++◌, codes, ap, ◌∙◌, rules}
use Rattle.lines.specs.Cursors.{passed}
use Rattle.lines.proofs.Passed.{parted}
use Rattle.drive.proofs.ops.read_request.Goals as goal

pub returns-clause-reads : goal.returns-clause-reads
returns-clause-reads g c =
    let begin = c.in_ok-begin.ensures.reads in
    let text = passed c.args.cursor.now c.number.new.self in
    let first = parted c.args.cursor.now c.number.new.self c.expect.new.self c.read_frame.new.cursor (codes "|") c.number.ensures.onward c.expect.ensures.onward (search rules) c.in_ok-expect.ensures.text in
    let second = parted c.expect.new.self c.read_column.new.cursor c.expect-2.new.self c.read_frame.new.cursor (codes "|") c.read_column.ensures.onward c.expect-2.ensures.onward c.read_frame.ensures.onward c.in_ok-expect-2.ensures.text in
    (text, _, _, first ∙ ap (λ t. text ++ (codes "|" ++ t)) second, (begin.0.0.0, begin.0.1), c.in_ok-column.ensures.reads, c.in_ok-frame.ensures.reads)
