use Rattle.std.proofs.Common.{ap, arith}
use Rattle.std.proofs.lemmas.List.{drop_all}
use Rattle.std.proofs.lemmas.Bool.Decides.{nat_tests}
use Rattle.column.specs.Cells.{column_cells}
use Rattle.column.proofs.Cells.{length-cells}
use Rattle.partition.specs.Peers.{peers_from}
use Rattle.partition.proofs.Groups.{left_some}
use Rattle.partition.proofs.walk.PeerGroups.is_done.Goals as goal

pub returns-clause-all : goal.returns-clause-all
returns-clause-all g c e =
    let w = c.args.self.now in
    let long = length-cells w.column.values.now w.column.marks.now w.lengths in
    ap (peers_from g.K.Kind.same w.start) (drop_all w.start (column_cells w.column) (grind (arith, nat_tests)))

pub returns-clause-some : goal.returns-clause-some
returns-clause-some g c e =
    let w = c.args.self.now in
    let long = length-cells w.column.values.now w.column.marks.now w.lengths in
    left_some g.K.Kind.same (column_cells w.column) w.start (grind (arith, nat_tests))
