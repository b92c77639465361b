use Rattle.std.proofs.Common.{length, ap, arith}
use Rattle.std.proofs.lemmas.List.{drop_all}
use Rattle.column.specs.Cells.{column_cells}
use Rattle.partition.specs.Peers.{peers_from}
use Rattle.column.proofs.Cells.{length-cells}
use Rattle.partition.proofs.Groups.{run}
use Rattle.partition.proofs.peers.PeerGroupsIterator.next.Goals as goal

pub returns-then-start-self-clause-steps : goal.returns-then-start-self-clause-steps
returns-then-start-self-clause-steps g c =
    let w = c.args.self.now in
    let long = length-cells w.column.values.now w.column.marks.now w.lengths in
    let none = ap (peers_from g.K.Kind.same w.start) (drop_all w.start (column_cells w.column) (omega (arith, long))) in
    (none, none)

pub returns-clause-steps : goal.returns-clause-steps
returns-clause-steps g c = run g.K.Kind.same (column_cells c.args.self.now.column) c.args.self.now.start c.group_end-self.result c.group_end-self.ensures

pub returns-clause-goes : goal.returns-clause-goes
returns-clause-goes g c =
    let step = ap length (run g.K.Kind.same (column_cells c.args.self.now.column) c.args.self.now.start c.group_end-self.result c.group_end-self.ensures) in
    record { on = λ f. (tt, tt, omega (arith, step)); keeps = tt; rests = λ f. tt }
