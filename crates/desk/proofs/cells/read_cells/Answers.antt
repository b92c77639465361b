use Rattle.std.proofs.Common.{◌≡◌, ◌+◌, subst, sym, ◌∙◌, arith, rules}
use Rattle.std.proofs.lemmas.List.{get_or_default}
use Rattle.desk.specs.Cells.{IsCell, NoCell}
use Rattle.desk.proofs.Reading.{one_read, first_bad}
use Rattle.desk.proofs.cells.read_cells.Goals as goal

pub returns-in_err-cell : goal.returns-in_err-cell
returns-in_err-cell g c =
    let says = g.K.FieldValue.says in
    let contents = c.args.contents.now in
    let content = c.index-contents-row.result in
    let row = c.loop-row.row in
    let next : c.saturating_add.result ≡ row + 1 = omega (arith, c.saturating_add.ensures) in
    let fault = first_bad says contents c.loop-row.cells.items row c.saturating_add.result c.args.column content c.in_err-cell.field-0.0 c.loop-row.invariant c.loop-row-test.true (λ d. get_or_default contents row d content c.loop-row-test.true ∙ sym c.index-contents-row.is) next (subst (λ b. NoCell b c.saturating_add.result c.args.column c.in_err-cell.field-0.0) c.bytes.ensures c.in_err-cell.ensures) in
    search (rules, fault)

pub loop-row-preserved : goal.loop-row-preserved
loop-row-preserved g c =
    let says = g.K.FieldValue.says in
    let contents = c.args.contents.now in
    let content = c.index-contents-row.result in
    let row = c.loop-row.row in
    one_read says contents c.loop-row.cells.items c.push.new.self.items row content c.in_ok-cell.cell c.loop-row.invariant c.loop-row-test.true (λ d. get_or_default contents row d content c.loop-row-test.true ∙ sym c.index-contents-row.is) (subst (λ b. IsCell says b c.in_ok-cell.cell) c.bytes.ensures c.in_ok-cell.ensures) (search rules)
