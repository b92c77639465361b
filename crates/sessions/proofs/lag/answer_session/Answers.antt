use Rattle.std.proofs.Common.{◌≡◌, map, length, unwrap_or, is_some, pos, sym, ap, ◌∙◌, rules}
use Rattle.std.proofs.lemmas.List.{length-map, take_at}
use Rattle.std.proofs.lemmas.Result.{IfOk-weaker}
use Rattle.sessions.proofs.Lags.{filled-last, answered_cells}
use Rattle.sessions.proofs.lag.answer_session.Goals as goal

values : (c : goal.After-drop-values-2) → c.as_slice.result.now ≡ map (λ x. unwrap_or x (record { 0 = pos 0 })) c.args.cells.now
values c = search rules

marks : (c : goal.After-drop-values-2) → c.as_slice-2.result.now ≡ map (λ x. is_some x) c.args.cells.now
marks c = search rules

pub returns : goal.returns
returns c =
    let same : length c.as_slice-2.result.now ≡ length c.as_slice.result.now = ap length (marks c) ∙ length-map c.args.cells.now (λ x. is_some x) ∙ sym (ap length (values c) ∙ length-map c.args.cells.now (λ x. unwrap_or x (record { 0 = pos 0 }))) in
    let filled = filled-last c.lag.result _ c.as_slice.result.now c.as_slice-2.result.now _ _ c.lag.ensures c.new-rows.ensures same (c.evaluate_cells.ensures.filled c.unwrap.ensures) in
    IfOk-weaker c.to_cells.result _ _ (λ v e. answered_cells c.args.cells.now (record { 0 = pos 0 }) _ _ _ _ _ _ _ _ v.items (values c) (marks c) (search rules) (search rules) filled (c.as_slice-3.ensures.value ∙ take_at _ _ _ (filled.values_long ∙ c.as_mut_slice.ensures.len)) (c.as_slice-4.ensures.value ∙ take_at _ _ _ (filled.marks_long ∙ c.as_mut_slice-2.ensures.len)) e) c.to_cells.ensures
