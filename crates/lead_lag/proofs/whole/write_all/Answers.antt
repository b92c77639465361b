use Rattle.std.proofs.Common.{◌∙◌, rules}
use Rattle.lead_lag.proofs.Presences.{as_rows}
use Rattle.lead_lag.proofs.whole.write_all.Goals.{then-not-look-via-then-not-look, then-not-look-via-else-not-look+then-all_present}
use Rattle.lead_lag.proofs.whole.write_all.Goals as goal

pub returns-then-not-look-clause-slots : goal.returns-then-not-look-clause-slots
returns-then-not-look-clause-slots g c = elim c.then-not-look.branch [
  | then-not-look-via-then-not-look w ↦ search rules
  | then-not-look-via-else-not-look+then-all_present w ↦ c.write_off.ensures.slots ∙ as_rows g.O.Output.stored (g.O.Output.slots c.args.out.now) c.args.look.way c.args.look.ignore_nulls c.args.default c.args.column.now c.requires.lengths c.requires.proper (search rules)
]
