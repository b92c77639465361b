use Rattle.std.proofs.Common.{vec_items, sym, subst, ◌∙◌, rules}
use Rattle.lines.specs.Cursors.{passed}
use Rattle.lines.specs.Reads.{ReadsColumn}
use Rattle.replayed.proofs.Words.{all_passed}
use Rattle.replayed.proofs.script.column_of.Goals as goal

pub returns-in-Ok : goal.returns-in-Ok
returns-in-Ok g c =
    let line = c.new-cursor.result in
    let end = c.read_column.new.cursor in
    let whole = all_passed line end c.new-cursor.ensures.at c.read_column.ensures.onward (search rules) in
    let reads : ReadsColumn g.K.Text.reads 32 (passed line end) (vec_items c.in_ok-column.column.values) (vec_items c.in_ok-column.column.marks) = search rules in
    subst (λ t. ReadsColumn g.K.Text.reads 32 t (vec_items c.in_ok-column.column.values) (vec_items c.in_ok-column.column.marks)) (sym (sym c.new-cursor.ensures.text ∙ whole)) reads
