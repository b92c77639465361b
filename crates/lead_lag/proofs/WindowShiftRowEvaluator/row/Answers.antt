use Rattle.std.proofs.Common.{◌≡◌, sym, ap, ◌∙◌, arith, rules}
use Rattle.column.specs.Cells.{view}
use Rattle.run.specs.Shown.{end_of}
use Rattle.lead_lag.specs.Steps.{source_by}
use Rattle.run.proofs.Unframed.{handed_turn, turn_call}
use Rattle.lead_lag.specs.Shift.{shift_meaning}
use Rattle.lead_lag.proofs.Calls.{early_by, answers_by}
use Rattle.lead_lag.proofs.WindowShiftRowEvaluator.row.Goals as goal

pub returns-then-must_wait-clause-call : goal.returns-then-must_wait-clause-call
returns-then-must_wait-clause-call g c =
    let t = c.args.turn.now in
    let end : c.end-end.result ≡ end_of c.window-window.result = c.end-end.ensures ∙ ap end_of (sym c.window-window.ensures) in
    let h = handed_turn _ _ _ _ t.frame _ _ c.window-window.ensures c.known.ensures c.requires in
    turn_call shift_meaning _ _ _ _ _ _ _ _ _ _ _ c.in_ok-next.ensures.0 c.window-window.ensures c.known.ensures (early_by c.args.self.now c.in_ok-next.next c.window-window.result t.frame c.known.result h (omega (arith, c.in_ok-next.ensures, ap end_of c.window-window.ensures)) c.look-look.result c.look-look.ensures c.source-source.result (c.source-source.ensures ∙ ap (source_by c.look-look.result.way c.look-look.result.ignore_nulls c.args.self.now.held (view c.window-window.result) c.in_ok-next.next) end) c.must_wait.result c.must_wait.ensures c.if-must_wait.true)

pub returns-clause-call : goal.returns-clause-call
returns-clause-call g c =
    let t = c.args.turn.now in
    let end : c.end-end.result ≡ end_of c.window-window.result = c.end-end.ensures ∙ ap end_of (sym c.window-window.ensures) in
    let h = handed_turn _ _ _ _ t.frame _ _ c.window-window.ensures c.known.ensures c.requires in
    turn_call shift_meaning _ _ _ _ _ _ _ _ _ _ _ c.in_ok-next.ensures.0 c.window-window.ensures c.known.ensures (answers_by c.args.self.now c.in_ok-next.next c.window-window.result t.frame c.known.result h (omega (arith, c.in_ok-next.ensures, ap end_of c.window-window.ensures)) c.look-look.result c.look-look.ensures c.source-source.result (c.source-source.ensures ∙ ap (source_by c.look-look.result.way c.look-look.result.ignore_nulls c.args.self.now.held (view c.window-window.result) c.in_ok-next.next) end) c.must_wait.result c.must_wait.ensures c.if-must_wait.false c.take_cell-answer.result c.take_cell-answer.ensures c.step-self.result (search rules))
