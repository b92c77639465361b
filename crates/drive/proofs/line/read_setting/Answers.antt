use Rattle.std.proofs.Common.{◌++◌, codes, ap, ◌∙◌, rules}
use Rattle.lines.proofs.Passed.{led}
use Rattle.lines.specs.Texts.{mark_text}
use Rattle.drive.proofs.line.read_setting.Goals as goal

pub returns-clause-reads : goal.returns-clause-reads
returns-clause-reads c =
    let end = c.read_limit.new.cursor in
    let blank = led c.read.new.cursor c.expect-2.new.self end (codes " ") c.expect-2.ensures.onward c.read_limit.ensures.onward c.in_ok-expect-2.ensures.text in
    let mark = led c.expect.new.self c.read.new.cursor end (mark_text c.in_ok-from_zero.from_zero) c.read.ensures.onward (search rules) c.in_ok-from_zero.ensures.reads ∙ ap (λ t. mark_text c.in_ok-from_zero.from_zero ++ t) blank in
    (_, led c.args.cursor.now c.expect.new.self end (codes "Z") c.expect.ensures.onward (search rules) c.in_ok-expect.ensures.text ∙ ap (λ t. codes "Z" ++ t) mark, c.in_ok-read_limit.ensures.reads)
