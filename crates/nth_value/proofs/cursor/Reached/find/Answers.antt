use Rattle.std.proofs.Common.{◌≡◌, ℕ, ◌-◌, sym, ap, ◌∙◌, arith, rules}
use Rattle.std.specs.List.{slice_get}
use Rattle.column.specs.Cells.{view}
use Rattle.present.specs.Present.{ahead}
use Rattle.present.specs.Counting.{up_to}
use Rattle.column.specs.Windows.{window_end}
use Rattle.nth_value.proofs.Cursors.{ahead_found}
use Rattle.nth_value.proofs.cursor.Reached.find.Goals as goal

pub returns-clause-found : goal.returns-clause-found
returns-clause-found g c k =
    let w = view c.args.window.now in
    let n = window_end c.args.window.now in
    let m = c.args.self.now.m in
    let s = c.args.frame.0 in
    let here : c.loop-row.row ≡ s = omega (arith, c.loop-row-test.false, c.loop-row.auto.row-end) in
    let p : c.loop-row.self.found ≡ slice_get (ahead w s (n - s)) (m - 1) = c.loop-row.invariant.1 (m - 1) k ∙ ap (λ (x : ℕ). slice_get (ahead w x (n - x)) (m - 1)) here in
    let kept : c.filter.result ≡ up_to c.args.frame.1 c.loop-row.self.found = search rules in
    (p ∙ ap (λ (x : ℕ). slice_get (ahead w s (n - s)) (x - 1)) (sym c.loop-row.invariant.0), ahead_found w n m s c.args.frame.1 c.loop-row.self.found c.filter.result c.requires.proper c.requires.within p kept)
