use Rattle.std.proofs.Common.{◌≡◌, codes, rules, subst}
use Rattle.column.specs.Refusal.{row_limit}
use Rattle.lines.specs.Cursors.{passed}
use Rattle.lines.specs.Reads.{ReadsUnsigned}
use Rattle.lines.proofs.Passed.{led}
use Rattle.drive.proofs.line.read_limit.Goals as goal

pub returns-clause-reads : goal.returns-clause-reads
returns-clause-reads c =
    let letter = c.expect.new.self in
    let end = c.number_in.new.self in
    let limit : c.in_ok-number_in.field-0 ≡ row_limit = search rules in
    (_, led c.args.cursor.now letter end (codes "L") c.expect.ensures.onward c.number_in.ensures.onward c.in_ok-expect.ensures.text, subst (ReadsUnsigned (passed letter end)) limit c.in_ok-number_in.ensures.reads)
