use Rattle.std.proofs.Common.{IfOk, decimal, false, string_bytes, sym, subst, true, vec_items}
use Rattle.lines.specs.Texts.{cell_text}
use Rattle.lead_lag.specs.Shift.{shift_meaning}
use Rattle.nth_value.specs.Nth.{nth_meaning}
use Rattle.rank.specs.Numbers.{row_number_meaning}
use Rattle.rank.specs.Ranks.{rank_meaning}
use Rattle.replayed.specs.Replays.{ReplayTold, TellsFunction, TellsMade}
use Rattle.replayed.proofs.script.tell.Goals as goal

pub returns-in-Shift : goal.returns-in-Shift
returns-in-Shift g c =
    let script = c.args.script.now in
    let told = subst (λ m. IfOk c.answered.result (λ s. TellsMade (cell_text g.K.Show.text) shift_meaning false script.from_zero (vec_items script.column.values) (vec_items script.column.marks) (vec_items script.steps) script.head.text.now m (string_bytes s))) c.try_from.ensures c.answered.ensures in
    subst (λ f. IfOk c.answered.result (λ s. TellsFunction g.K.Kind.same g.K.Show.text script.from_zero (vec_items script.column.values) (vec_items script.column.marks) (vec_items script.steps) script.head.text.now f (string_bytes s))) (sym c.in-Shift.is) told

pub returns-in-Frames : goal.returns-in-Frames
returns-in-Frames g c =
    let script = c.args.script.now in
    let told = subst (λ m. IfOk c.answered-in-Frames.result (λ s. TellsMade (cell_text g.K.Show.text) nth_meaning true script.from_zero (vec_items script.column.values) (vec_items script.column.marks) (vec_items script.steps) script.head.text.now m (string_bytes s))) c.try_from-in-Frames.ensures c.answered-in-Frames.ensures in
    subst (λ f. IfOk c.answered-in-Frames.result (λ s. TellsFunction g.K.Kind.same g.K.Show.text script.from_zero (vec_items script.column.values) (vec_items script.column.marks) (vec_items script.steps) script.head.text.now f (string_bytes s))) (sym c.in-Frames.is) told

pub returns-in-Rank : goal.returns-in-Rank
returns-in-Rank g c =
    let script = c.args.script.now in
    let told = subst (λ e. IfOk c.answered-in-Rank.result (λ s. ReplayTold decimal (rank_meaning g.K.Kind.same) e false script.from_zero (vec_items script.column.values) (vec_items script.column.marks) (vec_items script.steps) (string_bytes s))) c.new.ensures.is c.answered-in-Rank.ensures in
    subst (λ f. IfOk c.answered-in-Rank.result (λ s. TellsFunction g.K.Kind.same g.K.Show.text script.from_zero (vec_items script.column.values) (vec_items script.column.marks) (vec_items script.steps) script.head.text.now f (string_bytes s))) (sym c.in-Rank.is) told

pub returns-in-RowNumber : goal.returns-in-RowNumber
returns-in-RowNumber g c =
    let script = c.args.script.now in
    let told = subst (λ e. IfOk c.answered-in-RowNumber.result (λ s. ReplayTold decimal row_number_meaning e false script.from_zero (vec_items script.column.values) (vec_items script.column.marks) (vec_items script.steps) (string_bytes s))) c.new-in-RowNumber.ensures c.answered-in-RowNumber.ensures in
    subst (λ f. IfOk c.answered-in-RowNumber.result (λ s. TellsFunction g.K.Kind.same g.K.Show.text script.from_zero (vec_items script.column.values) (vec_items script.column.marks) (vec_items script.steps) script.head.text.now f (string_bytes s))) (sym c.in-RowNumber.is) told
