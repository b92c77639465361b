use Rattle.std.proofs.Common.{ℕ, List, ap, ◌∙◌, rules}
use Rattle.std.proofs.lemmas.Iterator.{YieldsList-from_map_by}
use Rattle.std.proofs.lemmas.Iterator.Consumers.{YieldsList-from_enumerate, YieldsList-from_filter, map_from_collect}
use Rattle.std.proofs.lemmas.Iterator.Splits.{YieldsList-from_lines}
use Rattle.std.specs.Iterator.Adapters.{filter_callee}
use borrow.Author.Tests.{tests}
use Rattle.replayed.specs.declared.script.Line.{Line}
use Rattle.replayed.specs.Calls.{is_call}
use Rattle.replayed.proofs.script.lines_of.Goals as goal

pub returns : goal.returns
returns c =
    map_from_collect _ c.collect.ensures.ran (YieldsList-from_map_by _ (λ (l : Line). l.text.now) (λ (p : ℕ × List ℕ). p.1) (YieldsList-from_filter _ (λ (p : ℕ × List ℕ). is_call p.1) (YieldsList-from_enumerate (YieldsList-from_lines c.args.text.now (cc)) (cc)) (ap filter_callee c.map.ensures.source ∙ c.filter.ensures.closure) (λ x r q k. search (rules, tests))) c.map.ensures.closure (λ x r q k. search rules))
