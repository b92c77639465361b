use Rattle.std.proofs.Common.{length, inl, ap, arith}
use Rattle.column.specs.Cells.{column_cells}
use Rattle.column.specs.Refusal.{column_refusal}
use Rattle.column.proofs.Cells.{length-cells}
use Rattle.column.proofs.Columns.{column-says}
use Rattle.column.proofs.Exits.{passed}
use Rattle.partition.proofs.Groups.{peer_law, peers_long}
use Rattle.partition.proofs.peers.peer_groups.Goals as goal

pub returns-in_err-check-clause-law : goal.returns-in_err-check-clause-law
returns-in_err-check-clause-law g c = peer_law g.K.Kind.same g.met.K.Kind.reflexive (column_cells c.args.column.now)

pub count-count-requires-clause-fits : goal.count-count-requires-clause-fits
count-count-requires-clause-fits g c =
    let column = c.args.column.now in
    let says = column-says (length column.values.now) (length column.marks.now) (passed (column_refusal (length column.values.now) (length column.marks.now)) _ c.in_ok-check.ensures) in
    inl (omega (arith, ap length c.of.ensures, peers_long g.K.Kind.same (column_cells column), length-cells column.values.now column.marks.now says.0, says.1))

pub returns-in_err-check_places-clause-law : goal.returns-in_err-check_places-clause-law
returns-in_err-check_places-clause-law g c = peer_law g.K.Kind.same g.met.K.Kind.reflexive (column_cells c.args.column.now)

pub returns-clause-law : goal.returns-clause-law
returns-clause-law g c = peer_law g.K.Kind.same g.met.K.Kind.reflexive (column_cells c.args.column.now)
