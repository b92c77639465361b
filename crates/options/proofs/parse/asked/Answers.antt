use Rattle.std.proofs.Common.{inr, rules}
use Rattle.options.specs.Asking.{NotAsked}
use Rattle.options.proofs.parse.asked.Goals as goal

pub returns-in_err-by_rows : goal.returns-in_err-by_rows
returns-in_err-by_rows c =
    let last : NotAsked c.args.function c.args.drawn c.args.given.now c.in_err-by_rows.field-0.0 = inr (inr (inr (inr (inr (search rules, search rules, (c.in_ok-frame.frame, search rules), (c.in_ok-kind.kind, search rules), search rules))))) in
    search (rules, last)
