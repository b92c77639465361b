use Rattle.std.proofs.Common.{◌≡◌, ◌++◌, ◌∙◌, drop, length, map, ap, rules, subst, sym, take}
use Rattle.std.specs.List.{range_with_len}
use Rattle.std.proofs.lemmas.List.{take_at}
use Rattle.std.proofs.lemmas.List.FromFn.{length-map-range_with_len}
use Rattle.std.proofs.lemmas.Result.{IfOk-weaker}
use Rattle.evaluator.specs.Meaning.{partition}
use Rattle.partition.specs.Table.{input, row_count, whole_refusal}
use Rattle.drive.specs.Kept.{HoldsFrom}
use Rattle.drive.specs.Whole.{handed_input, row_answers}
use Rattle.drive.proofs.Tells.{all_hold, front_is, kept_behind, listed_or, whole_answered, whole_refused}
use Rattle.drive.proofs.slots.call_numbers.Goals as goal

pub returns-then-not-is_kept : goal.returns-then-not-is_kept
returns-then-not-is_kept g c =
    let x = input c.as_partition-rows.result in
    let old = c.as_mut_slice.result.now in
    let new = c.evaluate_numbers-made.new.list in
    let refusal = whole_refusal g.E.Value.Kind.same g.E.Evaluator.WANTS_FRAMES g.E.Evaluator.WANTS_GROUPS x (length old) in
    let answers = (g.E.Evaluator.meaning c.args.evaluator.now).answer (partition g.E.Evaluator.WANTS_FRAMES x) in
    let holds : HoldsFrom c.pattern-pattern.result old 0 = all_hold _ c.args.length old (search rules) (λ k h. search rules) in
    let lent : c.as_slice.result.now ≡ new = c.as_slice.ensures.value ∙ take_at _ _ _ (search rules) in
    let is = listed_or answers (row_count x) refusal old new _ c.evaluate_numbers-made.ensures.call c.evaluate_numbers-made.ensures.filled in
    absurd (c.if-not-is_kept.ensures (subst (λ l. HoldsFrom c.pattern-pattern.result l c.map_or-answers.result) (sym lent) (kept_behind c.pattern-pattern.result refusal (row_count x) c.map_or-answers.result (map answers (range_with_len 0 (row_count x))) old new (length-map-range_with_len answers 0 (row_count x)) is (λ none. search (rules, none, c.evaluate_numbers-made.ensures.call.outcome)) holds)))

pub returns-in-Ok : goal.returns-in-Ok
returns-in-Ok g c =
    let x = input c.as_partition-rows.result in
    let m = g.E.Evaluator.meaning c.args.evaluator.now in
    let n = row_count x in
    let old = c.as_mut_slice.result.now in
    let new = c.evaluate_numbers-made.new.list in
    let front = row_answers m g.E.Evaluator.WANTS_FRAMES x in
    let is : new ≡ front ++ drop n old = c.evaluate_numbers-made.ensures.filled (search rules) in
    let count : c.map_or-answers.result ≡ n = search rules in
    let lent : c.as_slice-in-Ok.result.now ≡ take c.map_or-answers.result new = c.as_slice-in-Ok.ensures.value ∙ c.truncate.ensures.items ∙ ap (take c.map_or-answers.result) (take_at _ _ _ (search rules)) in
    let found : c.as_slice-in-Ok.result.now ≡ front = lent ∙ ap (λ k. take k new) count ∙ ap (take n) is ∙ front_is n front (drop n old) (length-map-range_with_len (m.answer (partition g.E.Evaluator.WANTS_FRAMES x)) 0 n) in
    IfOk-weaker c.format.result _ _ (λ s e. e ∙ whole_answered g.E.Value.Kind.same g.E.Answer.Show.text g.E.Evaluator.WANTS_FRAMES g.E.Evaluator.WANTS_GROUPS m x (handed_input c.args.handed.now) (length old) c.args.length _ c.as_partition-rows.ensures (search rules) c.evaluate_numbers-made.ensures.call.outcome _ (search rules) found) c.format.ensures.ok

pub returns : goal.returns
returns g c =
    IfOk-weaker c.to_string.result _ _ (λ s e. e ∙ whole_refused g.E.Value.Kind.same g.E.Answer.Show.text g.E.Evaluator.WANTS_FRAMES g.E.Evaluator.WANTS_GROUPS (g.E.Evaluator.meaning c.args.evaluator.now) (input c.as_partition-rows.result) (handed_input c.args.handed.now) (length c.as_mut_slice.result.now) c.args.length _ c.as_partition-rows.ensures (search rules) c.evaluate_numbers-made.ensures.call.outcome c.in-Err.fault (search rules)) c.to_string.ensures.ok
