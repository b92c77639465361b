use Rattle.std.proofs.Common.{sym, ap, ◌∙◌}
use Rattle.column.specs.Cells.{same_cell}
use Rattle.partition.proofs.Groups.{same_self}
use Rattle.fields.proofs.answers.OptionAnswer.is_same.Goals as goal

pub returns : goal.returns
returns g c e = c.same_cell.ensures ∙ ap (same_cell g.K.Kind.same c.args.self.now) (sym e) ∙ same_self g.K.Kind.same g.met.K.Kind.reflexive c.args.self.now
