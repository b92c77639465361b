use Rattle.std.proofs.Common.{rules, arith, ◌≡◌, ◌+◌, ◌*◌, ◌≤◌, ◌<◌, ◌∙◌, ap, sym, subst, ℕ, List, Bor, length, get_or}
use Rattle.table.proofs.Fielding.{before, fielded}
use Rattle.table.specs.FieldPlaces.{FieldAt}
use Rattle.table.proofs.columns.field_start.Goals as goal

pub overflow_mul-number : goal.overflow_mul-number
overflow_mul-number c =
    let f = fielded c.args.body.now c.args.table.now.width c.args.table.now.records.items c.args.table.now.fields.items c.args.number c.record_start-at.result c.record_start-at.ensures c.requires.inside in
    let inside : c.loop-i.i < c.args.table.now.width = omega (arith, c.loop-i-test.true, c.requires.column) in
    let index : c.args.number * c.args.table.now.width + c.loop-i.i < length c.args.table.now.fields.items = f.index c.loop-i.i inside in
    search (rules, index)

pub overflow_add-number : goal.overflow_add-number
overflow_add-number c =
    let f = fielded c.args.body.now c.args.table.now.width c.args.table.now.records.items c.args.table.now.fields.items c.args.number c.record_start-at.result c.record_start-at.ensures c.requires.inside in
    let inside : c.loop-i.i < c.args.table.now.width = omega (arith, c.loop-i-test.true, c.requires.column) in
    let index : c.args.number * c.args.table.now.width + c.loop-i.i < length c.args.table.now.fields.items = f.index c.loop-i.i inside in
    search (rules, index)

pub index-requires : goal.index-requires
index-requires c =
    let f = fielded c.args.body.now c.args.table.now.width c.args.table.now.records.items c.args.table.now.fields.items c.args.number c.record_start-at.result c.record_start-at.ensures c.requires.inside in
    let inside : c.loop-i.i < c.args.table.now.width = omega (arith, c.loop-i-test.true, c.requires.column) in
    let index : c.args.number * c.args.table.now.width + c.loop-i.i < length c.args.table.now.fields.items = f.index c.loop-i.i inside in
    search (rules, index)

pub overflow_add-at-in-loop-i : goal.overflow_add-at-in-loop-i
overflow_add-at-in-loop-i c =
    let f = fielded c.args.body.now c.args.table.now.width c.args.table.now.records.items c.args.table.now.fields.items c.args.number c.record_start-at.result c.record_start-at.ensures c.requires.inside in
    let inside : c.loop-i.i < c.args.table.now.width = omega (arith, c.loop-i-test.true, c.requires.column) in
    let next = f.next c.loop-i.i c.index.result.now inside in
    let here : get_or c.args.table.now.fields.items (c.args.number * c.args.table.now.width + c.loop-i.i) c.index.result.now ≡ c.index.result.now = sym c.index.ensures in
    let grown : before c.args.table.now.width c.args.table.now.fields.items c.args.number (c.loop-i.i + 1) ≡ before c.args.table.now.width c.args.table.now.fields.items c.args.number c.loop-i.i + (length c.index.result.now.now + 1) = next ∙ ap (λ (x : Bor (List ℕ)). before c.args.table.now.width c.args.table.now.fields.items c.args.number c.loop-i.i + (length x.now + 1)) here in
    let more : c.loop-i.i + 1 ≤ c.args.column = omega (arith, c.loop-i-test.true) in
    let within : c.loop-i.at + (length c.index.result.now.now + 1) ≤ length c.args.body.now = omega (arith, f.within (c.loop-i.i + 1) (omega (arith, more, c.requires.column)), grown, c.loop-i.invariant) in
    search (rules, within)

pub loop-i-preserved : goal.loop-i-preserved
loop-i-preserved c =
    let f = fielded c.args.body.now c.args.table.now.width c.args.table.now.records.items c.args.table.now.fields.items c.args.number c.record_start-at.result c.record_start-at.ensures c.requires.inside in
    let inside : c.loop-i.i < c.args.table.now.width = omega (arith, c.loop-i-test.true, c.requires.column) in
    let next = f.next c.loop-i.i c.index.result.now inside in
    let here : get_or c.args.table.now.fields.items (c.args.number * c.args.table.now.width + c.loop-i.i) c.index.result.now ≡ c.index.result.now = sym c.index.ensures in
    let grown : before c.args.table.now.width c.args.table.now.fields.items c.args.number (c.loop-i.i + 1) ≡ before c.args.table.now.width c.args.table.now.fields.items c.args.number c.loop-i.i + (length c.index.result.now.now + 1) = next ∙ ap (λ (x : Bor (List ℕ)). before c.args.table.now.width c.args.table.now.fields.items c.args.number c.loop-i.i + (length x.now + 1)) here in
    omega (arith, grown, c.loop-i.invariant)

pub returns-clause-field : goal.returns-clause-field
returns-clause-field c =
    let f = fielded c.args.body.now c.args.table.now.width c.args.table.now.records.items c.args.table.now.fields.items c.args.number c.record_start-at.result c.record_start-at.ensures c.requires.inside in
    let end : c.loop-i.i ≡ c.args.column = omega (arith, c.loop-i-test.false, c.loop-i.auto.i-end) in
    let at : c.record_start-at.result + before c.args.table.now.width c.args.table.now.fields.items c.args.number c.args.column ≡ c.loop-i.at = ap (λ k. c.record_start-at.result + before c.args.table.now.width c.args.table.now.fields.items c.args.number k) (sym end) ∙ sym c.loop-i.invariant in
    subst (λ at. FieldAt c.args.body.now c.args.table.now.width c.args.number c.args.column at) at (f.field c.args.column c.requires.column)

pub returns-clause-within : goal.returns-clause-within
returns-clause-within c =
    let f = fielded c.args.body.now c.args.table.now.width c.args.table.now.records.items c.args.table.now.fields.items c.args.number c.record_start-at.result c.record_start-at.ensures c.requires.inside in
    let end : c.loop-i.i ≡ c.args.column = omega (arith, c.loop-i-test.false, c.loop-i.auto.i-end) in
    let at : c.record_start-at.result + before c.args.table.now.width c.args.table.now.fields.items c.args.number c.args.column ≡ c.loop-i.at = ap (λ k. c.record_start-at.result + before c.args.table.now.width c.args.table.now.fields.items c.args.number k) (sym end) ∙ sym c.loop-i.invariant in
    omega (arith, f.within c.args.column c.requires.column, at)
