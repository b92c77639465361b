use Rattle.std.proofs.Common.{◌-◌, is_some, sym, ap, ◌∙◌, rules, tests}
use Rattle.std.specs.List.{slice_get}
use Rattle.std.proofs.lemmas.Iterator.Adapters.{option_map_id}
use Rattle.std.proofs.lemmas.Iterator.Consumers.{YieldsList-at, YieldsList-from_filter, nth_from_yields_List}
use Rattle.column.specs.Cells.{view}
use Rattle.present.proofs.Chains.{behind_filter, YieldsList-down}
use Rattle.present.proofs.scan.present_behind.Goals as goal

pub returns : goal.returns
returns g c =
    let f = view c.args.window.now in
    let m = c.saturating_sub.result in
    sym (option_map_id c.nth.result) ∙ nth_from_yields_List c.nth.result c.nth.new.self m c.nth.ensures.ran (YieldsList-from_filter _ (λ r. is_some (f r)) (YieldsList-at c.filter.ensures.source (YieldsList-down c.args.from c.args.end c.rev.ensures.source)) c.filter.ensures.closure (λ x r q k. search (rules, tests))) ∙ ap (λ xs. slice_get xs m) (behind_filter f c.args.from (c.args.end - c.args.from)) ∙ ap (slice_get _) c.saturating_sub.ensures
