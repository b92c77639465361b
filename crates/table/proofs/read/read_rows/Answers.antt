use Rattle.std.proofs.Common.{rules, arith, ◌<◌, ◌≡◌, ◌-◌, ◌∙◌, length}
use Rattle.table.proofs.Sofar.{sofar_first, sofar_more, uneven, halted_first, reads_shorter}
use Rattle.table.proofs.read.read_rows.Goals as goal

pub returns-in-Err : goal.returns-in-Err
returns-in-Err c = let filled : 0 < length c.args.body.now = grind arith in halted_first c.args.body.now filled _ c.in-Err.ensures.stop

pub rows-init : goal.rows-init
rows-init c =
    let filled : 0 < length c.args.body.now = grind arith in
    let row = c.in-Ok.ensures.row in
    sofar_first c.args.body.now c.in-Ok.header.rest.now c.len-width.result c.in-Ok.header.raw row.0 _ _ filled row.2 (search rules) (search rules) (c.len-width.ensures ∙ c.cut_row.new.fields.ok.0)

pub overflow_sub-at : goal.overflow_sub-at
overflow_sub-at c = reads_shorter c.len-width.result c.args.body.now c.rows.invariant.rows c.rows.rest.now c.rows.invariant.read

pub returns-then-found-width : goal.returns-then-found-width
returns-then-found-width c =
    let filled : 0 < length c.rows.rest.now = grind arith in
    let row = c.in-Ok-cut_row.ensures.row in
    let found : c.len.result - c.len-before.result ≡ length c.cut_row-in-rows.new.fields.items - length c.rows.fields.items = omega (arith, c.len.ensures, c.len-before.ensures, c.cut_row-in-rows.new.fields.ok.0, c.rows.fields.ok.0) in
    uneven c.args.body.now c.rows.rest.now c.len-width.result c.rows.records.items c.rows.fields.items c.in-Ok-cut_row.row.raw row.0 c.in-Ok-cut_row.row.rest.now c.cut_row-in-rows.new.fields.items _ c.rows.invariant filled row.2 row.1 found c.if-found-width.true

pub rows-preserved : goal.rows-preserved
rows-preserved c =
    let filled : 0 < length c.rows.rest.now = grind arith in
    let row = c.in-Ok-cut_row.ensures.row in
    let found : length c.cut_row-in-rows.new.fields.items - length c.rows.fields.items ≡ c.len-width.result = omega (arith, c.if-found-width.false, c.len.ensures, c.len-before.ensures, c.cut_row-in-rows.new.fields.ok.0, c.rows.fields.ok.0) in
    sofar_more c.args.body.now c.rows.rest.now c.len-width.result c.rows.records.items c.rows.fields.items c.in-Ok-cut_row.row.raw row.0 c.in-Ok-cut_row.row.rest.now c.push-in-rows.new.self.items c.cut_row-in-rows.new.fields.items c.rows.invariant filled row.2 (search rules) row.1 found
