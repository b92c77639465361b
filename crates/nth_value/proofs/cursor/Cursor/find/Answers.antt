use Rattle.std.proofs.Common.{ℕ, ◌-◌, List, sym, ap, ◌∙◌, subst}
use Rattle.std.specs.List.{slice_get}
use Rattle.present.specs.Present.{at, ahead}
use Rattle.nth_value.specs.declared.cursor.Cursor.{Cursor}
use Rattle.column.specs.Windows.{window_end}
use Rattle.nth_value.specs.Cursors.{Knows, finds}
use Rattle.nth_value.proofs.Cursors.{shown-ahead, known-ahead, told_ahead}
use Rattle.nth_value.proofs.cursor.Cursor.find.Goals as goal

pub returns-in-Ahead : goal.returns-in-Ahead
returns-in-Ahead g c rows all k =
    let w = c.args.window.now in
    let is = c.in-Ahead.is in
    let a = subst (λ (x : Cursor). Knows (window_end w) rows x) is k in
    let d = c.find.ensures.found (known-ahead w rows all (window_end w) c.in-Ahead.known a) in (
      told_ahead w rows all (window_end w) c.find.new.self d.0,
      d.1 ∙ (ap (λ (xs : List ℕ). slice_get xs (c.in-Ahead.known.m - 1)) (shown-ahead w rows all c.args.frame.0 (c.args.frame.1 - c.args.frame.0)) ∙ ap (λ (x : Cursor). finds x rows c.args.frame) (sym is)),
      λ f. ap (λ (m : ℕ). slice_get (ahead (at rows) f.0 (f.1 - f.0)) (m - 1)) c.find.ensures.same ∙ ap (λ (x : Cursor). finds x rows f) (sym is),
    )
