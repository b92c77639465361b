use Rattle.std.proofs.Common.{◌≡◌, ℕ, ◌<◌, ◌∙◌, T, None, true, take, false, length, List, Bool, ap, rules, slice_index_or, subst, sym}
use Rattle.std.proofs.lemmas.List.{take_at, get_or_default}
use Rattle.std.proofs.lemmas.Result.{IfOk-weaker}
use Rattle.column.specs.Cells.{cells}
use Rattle.column.specs.Slots.{CellSlots, cell_count}
use Rattle.evaluator.specs.Meaning.{partition}
use Rattle.lines.specs.Texts.{cell_text}
use Rattle.partition.specs.Table.{input, row_count, whole_refusal}
use Rattle.partition.proofs.Accepted.{whole_says}
use Rattle.drive.specs.Kept.{HoldsFrom, MarksKept, ValuesKept}
use Rattle.drive.specs.Whole.{handed_input, row_answers, slot_count}
use Rattle.drive.proofs.Cells.{filled_cells}
use Rattle.drive.proofs.Kept.{cells_kept}
use Rattle.drive.proofs.Tells.{accepted, all_hold, whole_answered, whole_refused}
use Rattle.drive.proofs.answer.OptionAnswer.call.Goals as goal

pub returns-then-not-is_kept : goal.returns-then-not-is_kept
returns-then-not-is_kept g c =
    let p = c.pattern-pattern.result in
    let x = input c.as_partition-rows.result in
    let s : CellSlots _ = record { values = c.as_mut_slice.result.now; marks = c.as_mut_slice-2.result.now } in
    let t : CellSlots _ = record { values = c.evaluate_cells-made.new.values; marks = c.evaluate_cells-made.new.marks } in
    let refusal = whole_refusal g.K.Kind.same g.E.Evaluator.WANTS_FRAMES g.E.Evaluator.WANTS_GROUPS x (cell_count s) in
    let answers = (g.E.Evaluator.meaning c.args.evaluator.now).answer (partition g.E.Evaluator.WANTS_FRAMES x) in
    let holds : HoldsFrom p s.values 0 = all_hold _ c.args.lengths.values s.values (search rules) (λ k h. search rules) in
    let there : (k : ℕ) → k < length s.marks → slice_index_or s.marks k true ≡ true = λ k h. search rules in
    let marked : (k : ℕ) → k < length s.marks → T (slice_index_or s.marks k false) = λ k h. subst T (sym (get_or_default s.marks k false true h ∙ there k h)) tt in
    let values : c.as_column.result.values.now ≡ t.values = c.as_column.ensures.values ∙ take_at _ _ _ (search rules) in
    let marks : c.as_column.result.marks.now ≡ t.marks = c.as_column.ensures.marks ∙ take_at _ _ _ (search rules) in
    let kept = cells_kept g.K.Kind.same p (g.met.K.Kind.reflexive p) answers (row_count x) c.map_or.result s t holds marked refusal _ c.evaluate_cells-made.ensures.call c.evaluate_cells-made.ensures.filled (λ none. search (rules, none, c.evaluate_cells-made.ensures.call.outcome)) in
    absurd (c.if-not-is_kept.ensures (subst (λ (vs : List _). ValuesKept g.K.Kind.same p vs c.as_column.result.marks.now c.map_or.result (length vs)) (sym values) (subst (λ (ms : List Bool). ValuesKept g.K.Kind.same p t.values ms c.map_or.result (length t.values)) (sym marks) kept.0), subst (λ (ms : List Bool). MarksKept ms c.map_or.result (length ms)) (sym marks) kept.1))

pub returns-in-Ok : goal.returns-in-Ok
returns-in-Ok g c =
    let x = input c.as_partition-rows.result in
    let m = g.E.Evaluator.meaning c.args.evaluator.now in
    let n = row_count x in
    let s : CellSlots _ = record { values = c.as_mut_slice.result.now; marks = c.as_mut_slice-2.result.now } in
    let t : CellSlots _ = record { values = c.evaluate_cells-made.new.values; marks = c.evaluate_cells-made.new.marks } in
    let refusal = whole_refusal g.K.Kind.same g.E.Evaluator.WANTS_FRAMES g.E.Evaluator.WANTS_GROUPS x (cell_count s) in
    let none : refusal ≡ None = accepted tt tt refusal _ c.evaluate_cells-made.ensures.call.outcome (search rules) in
    let filled = c.evaluate_cells-made.ensures.filled (search rules) in
    let count : c.map_or.result ≡ n = search rules in
    let values : c.as_column.result.values.now ≡ t.values = c.as_column.ensures.values ∙ take_at _ _ _ (search rules) in
    let marks : c.as_column.result.marks.now ≡ t.marks = c.as_column.ensures.marks ∙ take_at _ _ _ (search rules) in
    let answers = filled_cells (m.answer (partition g.E.Evaluator.WANTS_FRAMES x)) n s t (whole_says g.K.Kind.same g.E.Evaluator.WANTS_FRAMES g.E.Evaluator.WANTS_GROUPS x (cell_count s) none).room filled in
    let found : take c.map_or.result (cells c.as_column.result.values.now c.as_column.result.marks.now) ≡ row_answers m g.E.Evaluator.WANTS_FRAMES x =
    ap (λ k. take k (cells c.as_column.result.values.now c.as_column.result.marks.now)) count ∙ ap (λ vs. take n (cells vs c.as_column.result.marks.now)) values ∙ ap (λ ms. take n (cells t.values ms)) marks ∙ answers in
    IfOk-weaker c.show.result _ _ (λ w e. e ∙ whole_answered g.K.Kind.same (cell_text g.K.Show.text) g.E.Evaluator.WANTS_FRAMES g.E.Evaluator.WANTS_GROUPS m x (handed_input c.args.handed.now) (cell_count s) (slot_count c.args.lengths) _ c.as_partition-rows.ensures (search rules) c.evaluate_cells-made.ensures.call.outcome _ (search rules) found) c.show.ensures

pub returns : goal.returns
returns g c =
    let s : CellSlots _ = record { values = c.as_mut_slice.result.now; marks = c.as_mut_slice-2.result.now } in
    IfOk-weaker c.to_string.result _ _ (λ w e. e ∙ whole_refused g.K.Kind.same (cell_text g.K.Show.text) g.E.Evaluator.WANTS_FRAMES g.E.Evaluator.WANTS_GROUPS (g.E.Evaluator.meaning c.args.evaluator.now) (input c.as_partition-rows.result) (handed_input c.args.handed.now) (cell_count s) (slot_count c.args.lengths) _ c.as_partition-rows.ensures (search rules) c.evaluate_cells-made.ensures.call.outcome c.in-Err.fault (search rules)) c.to_string.ensures.ok
