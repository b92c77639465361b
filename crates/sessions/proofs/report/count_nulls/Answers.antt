use Rattle.std.proofs.Common.{◌≡◌, not, is_some, count_by, ◌∙◌, rules}
use Rattle.sessions.proofs.Texts.{nulls_count}
use Rattle.sessions.proofs.report.count_nulls.Goals as goal

pub returns : goal.returns
returns c = let e : c.count.result ≡ count_by (λ x. not (is_some x)) c.args.cells.now = search rules in e ∙ nulls_count c.args.cells.now
