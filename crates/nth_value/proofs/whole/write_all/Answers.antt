use Rattle.std.proofs.Common.{◌≡◌, ℕ, length, get_or, refl, ap, ◌∙◌, arith}
use Rattle.column.specs.Cells.{column_cells}
use Rattle.column.specs.Slots.{written}
use Rattle.column.proofs.Cells.{view-all}
use Rattle.column.proofs.Writes.{none_written, one_more, written_same}
use Rattle.present.specs.Present.{at}
use Rattle.nth_value.specs.Frames.{cell_of}
use Rattle.nth_value.specs.Cursors.{finds}
use Rattle.nth_value.specs.Nth.{frame_answers}
use Rattle.nth_value.proofs.Cursors.{found_cell}
use Rattle.nth_value.proofs.whole.write_all.Goals as goal

pub loop-i-init : goal.loop-i-init
loop-i-init g c =
    let o = g.O.Output in
    let col = c.args.column.now in
    let k = c.new-cursor.ensures (column_cells col) (view-all col) in
    (none_written o.slots o.stored o.size o.place o.laws _ _ _ c.requires.room, k.0, λ f. refl)

pub loop-i-preserved : goal.loop-i-preserved
loop-i-preserved g c =
    let o = g.O.Output in
    let col = c.args.column.now in
    let rows = column_cells col in
    let f = get_or c.args.frames.now c.loop-i.i (0, 0) in
    let k = c.find-row.ensures rows (view-all col) c.loop-i.invariant.1 in (
      one_more o.slots o.stored o.size o.place o.laws _ _ _ _ _ _ _ c.loop-i.invariant.0 c.put.ensures.slots c.put.ensures.place (found_cell col c.find-row.result (finds c.new-cursor.result rows f) c.cell_of.result (k.1 ∙ c.loop-i.invariant.2 f) c.cell_of.ensures),
      k.0,
      λ g. k.2 g ∙ c.loop-i.invariant.2 g,
    )

pub returns-clause-slots : goal.returns-clause-slots
returns-clause-slots g c =
    let o = g.O.Output in
    let col = c.args.column.now in
    let rows = column_cells col in
    let k = c.new-cursor.ensures rows (view-all col) in
    let all : c.loop-i.i ≡ length col.values.now = omega (arith, c.loop-i-test.false, c.loop-i.auto.i-end, c.requires.framed) in
    c.loop-i.invariant.0.holds ∙ (ap (λ (n : ℕ). written o.stored (λ i. cell_of (at rows) (finds c.new-cursor.result rows (get_or c.args.frames.now i (0, 0)))) (o.slots c.args.out.now) n) all ∙ written_same o.stored (λ i. cell_of (at rows) (finds c.new-cursor.result rows (get_or c.args.frames.now i (0, 0)))) (frame_answers c.args.seek.pick c.args.seek.ignore_nulls rows c.args.frames.now) (o.slots c.args.out.now) (length col.values.now) (λ i l. ap (cell_of (at rows)) (k.1 (get_or c.args.frames.now i (0, 0)))))
