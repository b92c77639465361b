use Rattle.std.proofs.Common.{sym, ◌∙◌}
use Rattle.column.specs.Cells.{column_cells}
use Rattle.partition.specs.Table.{input, whole_refusal}
use Rattle.partition.proofs.Accepted.{whole_says}
use Rattle.column.proofs.Exits.{passed}
use Rattle.partition.proofs.Groups.{peer_law}
use Rattle.partition.proofs.whole.check_whole.Goals as goal

pub returns-clause-accepted : goal.returns-clause-accepted
returns-clause-accepted g c e = whole_says g.K.Kind.same c.args.wants_frames c.args.wants_groups (input c.args.partition.now) c.args.slots (passed (whole_refusal g.K.Kind.same c.args.wants_frames c.args.wants_groups (input c.args.partition.now) c.args.slots) tt (sym e ∙ c.first_fault.ensures))

pub returns-clause-peers : goal.returns-clause-peers
returns-clause-peers g c = peer_law g.K.Kind.same g.met.K.Kind.reflexive (column_cells c.args.partition.now.column)
