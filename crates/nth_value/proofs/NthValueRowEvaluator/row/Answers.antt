use Rattle.std.proofs.Common.{◌≡◌, ◌≤◌, false, ap, arith}
use Rattle.run.specs.Shown.{end_of}
use Rattle.nth_value.proofs.Calls.{answers, handed_as, call_as}
use Rattle.nth_value.proofs.NthValueRowEvaluator.row.Goals as goal
use Rattle.nth_value.proofs.NthValueRowEvaluator.row.Goals.{else-not-known-via-then-not-known+else-frame-end, else-not-known-via-else-not-known}

pub returns-clause-call : goal.returns-clause-call
returns-clause-call g c =
    let e = c.args.self.now in
    let end : end_of c.window-window.result ≡ end_of c.args.turn.now.window = ap end_of c.window-window.ensures in
    let h = handed_as _ _ _ _ _ _ _ c.window-window.ensures c.frame-frame.ensures c.known.ensures c.requires in
    let reaches : c.known.result ≡ false → c.frame-frame.result.1 ≤ end_of c.window-window.result = λ k. elim c.else-not-known.branch [ else-not-known-via-then-not-known+else-frame-end w ↦ omega (arith, w.end.ensures, w.if-frame-end, end) | else-not-known-via-else-not-known w ↦ grind (arith, w.if-not-known, k) ] in
    call_as _ _ _ _ _ _ _ _ _ _ _ c.in_ok-next.ensures.0 c.window-window.ensures c.frame-frame.ensures c.known.ensures (answers e c.in_ok-next.next c.window-window.result c.frame-frame.result c.known.result h (omega (arith, c.in_ok-next.ensures, end)) reaches c.answer-answer.result c.answer-answer.ensures c.answered-self.result c.answered-self.ensures)
