use Rattle.std.proofs.Common.{rules, length, slice_range}
use Rattle.table.specs.Fields.{Closed}
use Rattle.table.proofs.Quotes.{quoted_cut, quoted_trailed}
use Rattle.table.proofs.field.cut_quoted.Goals as goal

pub returns-in-Some : goal.returns-in-Some
returns-in-Some c =
    let closed : Closed (slice_range c.args.text.now 1 (length c.args.text.now)) c.in_ok-end.end = search rules in
    quoted_cut c.args.text.now _ _ _ _ c.requires closed c.split_at.ensures.front c.split_at.ensures.back c.in-Some.ensures

pub returns-in-None : goal.returns-in-None
returns-in-None c =
    let closed : Closed (slice_range c.args.text.now 1 (length c.args.text.now)) c.in_ok-end.end = search rules in
    quoted_trailed c.args.text.now _ _ c.requires closed c.split_at.ensures.back c.in-None.ensures
