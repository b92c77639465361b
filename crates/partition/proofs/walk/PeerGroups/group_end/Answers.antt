use Rattle.std.proofs.Common.{rules, tests}
use Rattle.std.proofs.lemmas.Iterator.{first_from_Range}
use Rattle.column.specs.Cells.{column_cells}
use Rattle.column.proofs.Cells.{length-cells}
use Rattle.partition.proofs.Groups.{Like, Unlike, group_to}
use Rattle.partition.proofs.walk.PeerGroups.group_end.Goals as goal

pub returns : goal.returns
returns g c =
    let w = c.args.self.now in
    let same = g.K.Kind.same in
    let cs = column_cells w.column in
    let found = first_from_Range _ _ _ c.find.result (Unlike same cs w.start) (Like same cs w.start) c.find.ensures.ran (λ x q k. search (rules, tests)) (λ x q k. search (rules, tests)) in
    group_to same g.met.K.Kind.reflexive cs w.start _ (length-cells w.column.values.now w.column.marks.now w.lengths) c.requires c.find.result found c.unwrap_or.result c.unwrap_or.ensures
