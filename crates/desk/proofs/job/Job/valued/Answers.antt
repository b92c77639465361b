use Rattle.std.proofs.Common.{◌≡◌, Some, subst, sym, rules}
use Rattle.std.proofs.lemmas.Result.{IfOk-weaker}
use Rattle.table.specs.Columns.{ColumnOf}
use Rattle.desk.specs.Cells.{AreCells}
use Rattle.desk.specs.Columns.{sheet_of}
use Rattle.desk.proofs.Reasons.{why_cells}
use Rattle.desk.proofs.Refining.{inside}
use Rattle.desk.proofs.job.Job.valued.Goals as goal

pub returns-clause-answers : goal.returns-clause-answers
returns-clause-answers g c =
    let s = sheet_of c.args.self.now in
    let (text, read) = c.requires.read in
    let says = g.K.FieldValue.says in
    let column = c.in_ok-column.column in
    let name = c.in_ok-name.name in
    let named : c.args.self.now.asked.now.of ≡ Some name = search rules in
    let of : ColumnOf s.width s.fields column c.as_slice.result.now = subst (λ cs. ColumnOf s.width s.fields column cs) (sym c.as_slice.ensures.value) (c.in_ok-contents.ensures.inside (inside text s read name.now column c.in_ok-column.ensures)) in
    let cells : AreCells says c.as_slice.result.now c.as_slice-2.result.now = subst (λ xs. AreCells says c.as_slice.result.now xs) (sym c.as_slice-2.ensures.value) c.in_ok-cells.ensures in
    IfOk-weaker c.of_values.result _ _ (λ a e. record { of = name; named = named; contents = c.as_slice.result.now; column = record { column = column; named = c.in_ok-column.ensures; of = of }; answers = (c.as_slice-2.result.now, cells, e) }) c.of_values.ensures.answers

pub returns-in_err-cells-clause-refused : goal.returns-in_err-cells-clause-refused
returns-in_err-cells-clause-refused g c =
    let s = sheet_of c.args.self.now in
    let (text, read) = c.requires.read in
    let column = c.in_ok-column.column in
    let of : ColumnOf s.width s.fields column c.as_slice.result.now = subst (λ cs. ColumnOf s.width s.fields column cs) (sym c.as_slice.ensures.value) (c.in_ok-contents.ensures.inside (inside text s read c.in_ok-name.name.now column c.in_ok-column.ensures)) in
    let why = why_cells g.K.FieldValue.says s c.args.self.now.asked.now c.as_slice.result.now column c.in_err-cells.field-0.0 of c.in_err-cells.ensures in
    search (rules, why)
