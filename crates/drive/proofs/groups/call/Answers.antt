use Rattle.std.proofs.Common.{◌≡◌, ◌++◌, ◌∙◌, None, drop, length, ap, refl, rules, subst, sym, take}
use Rattle.std.proofs.lemmas.List.{take_at}
use Rattle.std.proofs.lemmas.Result.{IfOk-weaker}
use Rattle.column.specs.Refusal.{yields}
use Rattle.lines.specs.Texts.{span_text}
use Rattle.partition.specs.Table.{column_groups, grouping_refusal}
use Rattle.drive.specs.Kept.{HoldsFrom}
use Rattle.drive.proofs.Tells.{accepted, all_hold, answered, front_is, kept_behind}
use Rattle.drive.proofs.groups.call.Goals as goal

pub returns-then-not-is_kept : goal.returns-then-not-is_kept
returns-then-not-is_kept g c =
    let own = column_groups g.K.Kind.same c.args.column.now in
    let refusal = grouping_refusal g.K.Kind.same c.args.column.now c.args.length in
    let old = c.as_mut_slice.result.now in
    let new = c.peer_groups-made.new.groups in
    let holds : HoldsFrom c.pattern-pattern.result old 0 = all_hold _ c.args.length old (search rules) (λ k h. search rules) in
    let lent : c.as_slice.result.now ≡ new = c.as_slice.ensures.value ∙ take_at _ _ _ (search rules) in
    absurd (c.if-not-is_kept.ensures (subst (λ l. HoldsFrom c.pattern-pattern.result l c.unwrap_or-count.result) (sym lent) (kept_behind c.pattern-pattern.result refusal (length own) c.unwrap_or-count.result own old new refl (search rules) (λ none. search (rules, none)) holds)))

pub returns-in-Ok : goal.returns-in-Ok
returns-in-Ok g c =
    let own = column_groups g.K.Kind.same c.args.column.now in
    let refusal = grouping_refusal g.K.Kind.same c.args.column.now c.args.length in
    let old = c.as_mut_slice.result.now in
    let new = c.peer_groups-made.new.groups in
    let result : c.peer_groups-made.result ≡ yields (length own) refusal = search rules in
    let none : refusal ≡ None = accepted (length own) c.in-Ok.count refusal c.peer_groups-made.result result (search rules) in
    let count : c.in-Ok.count ≡ length own = search (rules, none) in
    let is : new ≡ own ++ drop (length own) old = search (rules, none) in
    let lent : c.as_slice-in-Ok.result.now ≡ take c.in-Ok.count new = c.as_slice-in-Ok.ensures.value ∙ c.truncate.ensures.items ∙ ap (take c.in-Ok.count) (take_at _ _ _ (search rules)) in
    let found : c.as_slice-in-Ok.result.now ≡ own = lent ∙ ap (λ k. take k new) count ∙ ap (take (length own)) is ∙ front_is (length own) own (drop (length own) old) refl in
    IfOk-weaker c.format.result _ _ (λ s e. e ∙ answered span_text refusal _ own none found) c.format.ensures.ok
