use Rattle.std.proofs.Common.{rules, arith, length, ◌≡◌, ◌≤◌, ◌∙◌, sym, ap}
use Rattle.std.proofs.lemmas.List.{take_at, take_all}
use Rattle.column.proofs.Cells.{length-cells}
use Rattle.column.specs.Cells.{cells}
use Rattle.column.specs.Slots.{CellSlots, cell_count}
use Rattle.evaluator.specs.Meaning.{partition}
use Rattle.partition.specs.Table.{input, row_count, whole_refusal}
use Rattle.fields.proofs.Cells.{filled_cells}
use Rattle.fields.proofs.Stopped.{stopped}
use Rattle.fields.proofs.answers.OptionAnswer.whole.Goals as goal

pub returns-in-Ok-clause-answers : goal.returns-in-Ok-clause-answers
returns-in-Ok-clause-answers g c =
    let x = input c.args.rows.now in
    let n = row_count x in
    let s : CellSlots _ = record { values = c.as_mut_slice.result.now; marks = c.as_mut_slice-2.result.now } in
    let t : CellSlots _ = record { values = c.evaluate_cells.new.values; marks = c.evaluate_cells.new.marks } in
    let many : length s.values ≡ n = search rules in
    let marked : length s.marks ≡ n = search rules in
    let filled = c.evaluate_cells.ensures.filled (search rules) in
    let values : c.as_slice.result.now ≡ t.values = c.as_slice.ensures.value ∙ take_at _ _ _ (search rules) in
    let marks : c.as_slice-in-Ok.result.now ≡ t.marks = c.as_slice-in-Ok.ensures.value ∙ take_at _ _ _ (search rules) in
    let made : c.in_ok-to_cells-in-Ok.field-0.items ≡ cells c.as_slice.result.now c.as_slice-in-Ok.result.now = search rules in
    let long : length t.values ≡ n = filled.values_long ∙ many in
    let same : length t.values ≡ length t.marks = long ∙ sym (filled.marks_long ∙ marked) in
    let room : n ≤ cell_count s = omega (arith, many, marked) in
    made ∙ ap (λ vs. cells vs c.as_slice-in-Ok.result.now) values ∙ ap (λ ms. cells t.values ms) marks
    ∙ sym (take_all n (cells t.values t.marks) (omega (arith, length-cells t.values t.marks same, long)))
    ∙ filled_cells ((g.E.Evaluator.meaning c.args.evaluator.now).answer (partition g.E.Evaluator.WANTS_FRAMES x)) n s t room filled

pub returns-clause-refused : goal.returns-clause-refused
returns-clause-refused g c =
    let x = input c.args.rows.now in
    let s : CellSlots _ = record { values = c.as_mut_slice.result.now; marks = c.as_mut_slice-2.result.now } in
    let many : length s.values ≡ row_count x = search rules in
    let marked : length s.marks ≡ row_count x = search rules in
    let slots : cell_count s ≡ row_count x = omega (arith, many, marked) in
    stopped (whole_refusal g.K.Kind.same g.E.Evaluator.WANTS_FRAMES g.E.Evaluator.WANTS_GROUPS x) (cell_count s) (row_count x) _ c.in-Err.fault c.evaluate_cells.ensures.call.outcome (search rules) slots
