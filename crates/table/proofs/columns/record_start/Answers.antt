use Rattle.std.proofs.Common.{rules, arith, ◌≡◌, ◌+◌, ◌≤◌, sym, subst, List, ℕ, Bor, length}
use Rattle.table.proofs.Parting.{Step, end_is, parted_first, parted_step}
use Rattle.table.proofs.columns.record_start.Goals as goal

pub loop-i-init : goal.loop-i-init
loop-i-init c = parted_first c.requires.read

pub slice_bounds-end_len-count : goal.slice_bounds-end_len-count
slice_bounds-end_len-count c =
    let step = subst (λ (b : Bor (List ℕ)). Step c.args.body.now c.args.table.now.width c.args.table.now.records.items c.args.table.now.fields.items c.loop-i.i c.loop-i.at b.now) (sym c.index.ensures) (parted_step c.args.body.now c.args.table.now.width c.args.table.now.records.items c.args.table.now.fields.items c.loop-i.i c.loop-i.at c.loop-i.invariant c.index.result.now (omega (arith, c.loop-i-test.true, c.requires.inside))) in
    omega (arith, step.fits)

pub slice_bounds-end_len-start : goal.slice_bounds-end_len-start
slice_bounds-end_len-start c =
    let step = subst (λ (b : Bor (List ℕ)). Step c.args.body.now c.args.table.now.width c.args.table.now.records.items c.args.table.now.fields.items c.loop-i.i c.loop-i.at b.now) (sym c.index.ensures) (parted_step c.args.body.now c.args.table.now.width c.args.table.now.records.items c.args.table.now.fields.items c.loop-i.i c.loop-i.at c.loop-i.invariant c.index.result.now (omega (arith, c.loop-i-test.true, c.requires.inside))) in
    let within : c.loop-i.at + length c.index.result.now.now ≤ length c.args.body.now = omega (arith, step.fits) in
    search (rules, within)

pub overflow_add-at-in-loop-i : goal.overflow_add-at-in-loop-i
overflow_add-at-in-loop-i c =
    let step = subst (λ (b : Bor (List ℕ)). Step c.args.body.now c.args.table.now.width c.args.table.now.records.items c.args.table.now.fields.items c.loop-i.i c.loop-i.at b.now) (sym c.index.ensures) (parted_step c.args.body.now c.args.table.now.width c.args.table.now.records.items c.args.table.now.fields.items c.loop-i.i c.loop-i.at c.loop-i.invariant c.index.result.now (omega (arith, c.loop-i-test.true, c.requires.inside))) in
    let end : c.end_len-at.result ≡ length step.end = c.end_len-at.ensures step.end step.behind (end_is c.args.body.now (c.loop-i.at + length c.index.result.now.now) _ step.left) step.ends in
    let within : c.loop-i.at + length c.index.result.now.now + c.end_len-at.result ≤ length c.args.body.now = omega (arith, step.fits, end) in
    search (rules, within)

pub loop-i-preserved : goal.loop-i-preserved
loop-i-preserved c =
    let step = subst (λ (b : Bor (List ℕ)). Step c.args.body.now c.args.table.now.width c.args.table.now.records.items c.args.table.now.fields.items c.loop-i.i c.loop-i.at b.now) (sym c.index.ensures) (parted_step c.args.body.now c.args.table.now.width c.args.table.now.records.items c.args.table.now.fields.items c.loop-i.i c.loop-i.at c.loop-i.invariant c.index.result.now (omega (arith, c.loop-i-test.true, c.requires.inside))) in
    let end : c.end_len-at.result ≡ length step.end = c.end_len-at.ensures step.end step.behind (end_is c.args.body.now (c.loop-i.at + length c.index.result.now.now) _ step.left) step.ends in
    rw end step.next
