use Rattle.std.proofs.Common.{refl}
use Rattle.table.proofs.Begun.{comma_more, line_ends, text_ends}
use Rattle.table.proofs.row.cut_row.Goals as goal

pub fields-preserved : goal.fields-preserved
fields-preserved c = comma_more c.args.text.now c.fields.at c.fields.rest.now c.args.fields.now.items c.fields.fields.items _ c.in-Ok.cut.raw c.fields.invariant c.in_ok-push.ensures.items c.in-Ok.cut.then c.in-Comma.after c.in-Ok.ensures c.in-Comma.is

pub returns-in-Line-clause-row : goal.returns-in-Line-clause-row
returns-in-Line-clause-row c = line_ends c.args.text.now c.fields.at c.fields.rest.now c.args.fields.now.items c.fields.fields.items _ c.in-Ok.cut.raw c.fields.invariant c.in_ok-push.ensures.items c.in-Ok.cut.then c.in-Line.after c.in-Ok.ensures c.in-Line.is

pub returns-in-End-clause-row : goal.returns-in-End-clause-row
returns-in-End-clause-row c = text_ends c.args.text.now c.fields.at c.fields.rest.now c.args.fields.now.items c.fields.fields.items _ c.in-Ok.cut.raw c.fields.invariant c.in_ok-push.ensures.items c.in-Ok.cut.then _ c.in-Ok.ensures c.in-End.is refl
