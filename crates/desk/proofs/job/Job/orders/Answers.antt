use Rattle.std.proofs.Common.{◌≡◌, ◌+◌, List, ℕ, take, subst, sym, vec_items, rules}
use Rattle.table.specs.declared.content.Content.{Content}
use Rattle.turns.specs.Numbers.{Ordered}
use Rattle.desk.specs.Columns.{RefinedBy, sheet_of}
use Rattle.desk.specs.Rows.{unnumbered}
use Rattle.desk.proofs.Refining.{ordered_long, refined_next}
use Rattle.desk.proofs.job.Job.orders.Goals as goal

pub loop-name-preserved : goal.loop-name-preserved
loop-name-preserved c =
    let s = sheet_of c.args.self.now in
    let names = c.deref-name-items.result.now in
    let i = c.loop-name.name-index in
    let mid : List ℕ = c.loop-name.orders.items in
    let to : List ℕ = c.in_ok-orders-2.orders.items in
    let contents : List Content = c.in_ok-column.column.items in
    let same : names ≡ vec_items c.args.self.now.asked.now.order_by = c.deref-name-items.ensures.value in
    let so_far : RefinedBy Ordered s (unnumbered s) (take i names) mid = subst (λ ns. RefinedBy Ordered s (unnumbered s) (take i ns) mid) (sym same) c.loop-name.invariant in
    let by : Ordered mid contents to = search rules in
    let refined : Ordered mid contents to = search rules in
    subst (λ ns. RefinedBy Ordered s (unnumbered s) (take (i + 1) ns) to) same (refined_next Ordered s (unnumbered s) mid to names i _ contents c.loop-name-test.true so_far c.in_ok-column.ensures.contents by (ordered_long mid contents to refined))
