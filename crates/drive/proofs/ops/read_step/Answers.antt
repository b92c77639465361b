use Rattle.std.proofs.Common.{◌≡◌, ◌++◌, ap, sym, subst, ◌∙◌, rules}
use Rattle.lines.specs.Cursors.{passed}
use Rattle.lines.proofs.Passed.{passed_join}
use Rattle.drive.specs.Reads.{ReadsOp}
use Rattle.drive.proofs.ops.read_step.Goals as goal

pub returns-clause-reads : goal.returns-clause-reads
returns-clause-reads g c =
    let behind = c.read_op.new.cursor in
    let text : c.since-text.result.now ≡ passed c.args.cursor.now behind = search rules in
    (_, passed_join c.args.cursor.now behind c.pass_outcome.new.cursor c.read_op.ensures.onward c.pass_outcome.ensures.onward ∙ ap (λ t. t ++ passed behind c.pass_outcome.new.cursor) (sym text), c.pass_outcome.ensures.outcome, subst (λ t. ReadsOp g.K.Text.reads t c.in_ok-op.op) (sym text) c.in_ok-op.ensures.reads)
