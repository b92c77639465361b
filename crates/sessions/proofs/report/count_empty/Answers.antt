use Rattle.std.proofs.Common.{◌≡◌, not, is_some, count_by, ◌∙◌, rules}
use Rattle.sessions.proofs.Texts.{empty_count}
use Rattle.sessions.proofs.report.count_empty.Goals as goal

pub returns : goal.returns
returns c = let e : c.count.result ≡ count_by (λ r. not (is_some r.expiry)) c.args.records.now = search rules in e ∙ empty_count c.args.records.now
