use Rattle.std.proofs.Common.{rules, Bool, min, max, ◌≡◌, ℕ, ◌+◌, Option, List, ◌∷◌, [], ◌++◌, length, map, true, sym, refl, ap, ◌∙◌, subst, vec_items, ⊎_elim, inl, inr, arith}
use Rattle.column.proofs.Cells.{length-cells}
use Rattle.std.specs.List.{range_with_len, slice_get}
use Rattle.std.proofs.lemmas.List.{length_push}
use Rattle.partition.specs.Table.{input}
use Rattle.evaluator.specs.Meaning.{partition}
use Rattle.replay.specs.Act.{evaluator_of, progress_of, total_now}
use Rattle.column.specs.Cells.{cells}
use Rattle.moving.specs.Moving.{ShownAll}
use Rattle.moving.proofs.Under.{Under, Shows-so-far, marked_of, shown_more, shown_step, shown_all, settled_under, asked_ok, asked_err, under_total, part_shows, frame_there, framed_of, one_more}
use Rattle.moving.proofs.moving.answer_moving.Goals as goal

pub rows-preserved-in-Continue-branch-6 : goal.rows-preserved-in-Continue-branch-6
rows-preserved-in-Continue-branch-6 g c =
    let e = g.E.Evaluator in
    let x = input c.args.rows.now in
    let run = c.rows.reach.run in
    let acc = c.in_ok-check_whole.ensures.accepted refl in
    let fr : e.WANTS_FRAMES ≡ true → length x.frames ≡ length x.values = λ q. acc.framed (c.WANTS_FRAMES.ensures ∙ q) in
    let (u, said, low, within, seen) = c.rows.invariant in
    let p = partition e.WANTS_FRAMES x in
    let z = c.all_from_zero-settles.result in
    let w = c.part-window in
    let f = c.frame_of-frame.result in
    let old : List _ = vec_items c.rows.answers in
    let counted : c.len-in-rows.result ≡ length old = search rules in
    let given : f ≡ slice_get c.args.rows.now.frames.now (length old) = c.frame_of-frame.ensures ∙ ap (slice_get c.args.rows.now.frames.now) counted in
    let shows = part_shows x e.WANTS_FRAMES w.result c.min-begin.result c.rows.reach.end acc.lengths (omega (arith, c.min-begin.ensures)) within w.ensures.begin w.ensures.values w.ensures.marks in
    let step = asked_ok e.meaning g.met.E.Evaluator.lawful c.args.evaluator.now e.WANTS_FRAMES (total_now run) w.result f (evaluator_of run) (evaluator_of c.ask.new.run) (progress_of run) (progress_of c.ask.new.run) (partition e.WANTS_FRAMES x) z (length old) (framed_of e.WANTS_FRAMES x acc.lengths fr) u (shows, λ t l. frame_there x e.WANTS_FRAMES f (progress_of run).next (length old) acc.lengths fr given u.at t l) c.in-Ok.answer c.in-Ok.ensures.asked in
    let more : vec_items c.push.new.self ≡ old ++ c.in-Ok.answer ∷ [] = search rules in
    let long : length (vec_items c.push.new.self) ≡ length old + 1 = ap length more ∙ length_push old c.in-Ok.answer in
    (subst (λ (k : ℕ). Under e.meaning c.args.evaluator.now (evaluator_of c.settle.new.run) e.WANTS_FRAMES (progress_of c.settle.new.run) (total_now c.settle.new.run) p z k) (sym long) (subst (λ (t : Option ℕ). Under e.meaning c.args.evaluator.now (evaluator_of c.settle.new.run) e.WANTS_FRAMES (progress_of c.settle.new.run) t p z (length old + 1)) (sym (c.settle.ensures.total ∙ c.ask.ensures.total)) (settled_under e.meaning c.args.evaluator.now e.WANTS_FRAMES (total_now run) (evaluator_of c.ask.new.run) (evaluator_of c.settle.new.run) (progress_of c.ask.new.run) (progress_of c.settle.new.run) p z (length old + 1) (framed_of e.WANTS_FRAMES x acc.lengths fr) step.1 c.settle.ensures.progress z c.settle.result c.settle.ensures.unwanted c.settle.ensures.settled)), one_more _ old (vec_items c.push.new.self) c.in-Ok.answer more said step.0, omega (arith, long, c.rows-test.true), within, subst (λ (k : ℕ). Shows-so-far e.meaning c.args.evaluator.now p z c.args.step k (vec_items c.push-in-Ok.new.self) c.rows.too_early c.rows.reach.end) (sym long) (shown_more e.meaning c.args.evaluator.now p z c.args.step (length old) (vec_items c.rows.shown) c.rows.too_early c.rows.reach.end seen (vec_items c.push-in-Ok.new.self) c.keep_mark.result c.min-begin.result (marked_of e.meaning c.args.evaluator.now (evaluator_of run) e.WANTS_FRAMES (progress_of run) (total_now run) p z (length old) c.keep_mark.result u c.keep_mark.ensures) c.min-begin.ensures (search rules)))

pub rows-preserved : goal.rows-preserved
rows-preserved g c =
    let e = g.E.Evaluator in
    let x = input c.args.rows.now in
    let run = c.rows.reach.run in
    let acc = c.in_ok-check_whole.ensures.accepted refl in
    let fr : e.WANTS_FRAMES ≡ true → length x.frames ≡ length x.values = λ q. acc.framed (c.WANTS_FRAMES.ensures ∙ q) in
    let (u, said, low, within, seen) = c.rows.invariant in
    let p = partition e.WANTS_FRAMES x in
    let z = c.all_from_zero-settles.result in
    let w = c.part-window in
    let f = c.frame_of-frame.result in
    let old : List _ = vec_items c.rows.answers in
    let counted : c.len-in-rows.result ≡ length old = search rules in
    let given : f ≡ slice_get c.args.rows.now.frames.now (length old) = c.frame_of-frame.ensures ∙ ap (slice_get c.args.rows.now.frames.now) counted in
    let shows = part_shows x e.WANTS_FRAMES w.result c.min-begin.result c.rows.reach.end acc.lengths (omega (arith, c.min-begin.ensures)) within w.ensures.begin w.ensures.values w.ensures.marks in
    let stays = asked_err e.meaning g.met.E.Evaluator.lawful c.args.evaluator.now e.WANTS_FRAMES (total_now run) w.result f (evaluator_of run) (evaluator_of c.ask.new.run) (progress_of run) (progress_of c.ask.new.run) (partition e.WANTS_FRAMES x) z (length old) (framed_of e.WANTS_FRAMES x acc.lengths fr) u (shows, λ t l. frame_there x e.WANTS_FRAMES f (progress_of run).next (length old) acc.lengths fr given u.at t l) c.in-Err-TooEarly.field-0 c.in-Err-TooEarly.ensures.asked in
    let rows : length (cells x.values x.marks) ≡ length x.values = length-cells x.values x.marks acc.lengths in
    let (most, same, kept, total) = c.in_ok-reach-in-Err-TooEarly.ensures in
    let reach = c.in_ok-reach-in-Err-TooEarly.reach in
    (under_total e.meaning c.args.evaluator.now (evaluator_of c.ask.new.run) (evaluator_of reach.run) e.WANTS_FRAMES (progress_of c.ask.new.run) (progress_of reach.run) (total_now run) (total_now reach.run) (partition e.WANTS_FRAMES x) z (length old) (length x.values) (length-cells x.values x.marks acc.lengths) stays same kept (⊎_elim (λ l. inl (l ∙ c.ask.ensures.total)) (λ r. inr r) total), said, low, omega (arith, most), shown_step e.meaning c.args.evaluator.now p z c.args.step (length old) (vec_items c.rows.shown) c.rows.too_early c.rows.reach.end seen c.saturating_add-too_early.result reach.end (omega (arith, c.rows-test.true, rows)) (omega (arith, c.if-reach-n.true, rows)) (omega (arith, c.saturating_add-too_early.ensures, seen.few)) (most ∙ ap (λ (k : ℕ). min (c.rows.reach.end + max c.args.step 1) k) (sym rows)))

pub returns : goal.returns
returns g c =
    let (u, said, low, within, seen) = c.rows.invariant in
    let e = g.E.Evaluator in
    let x = input c.args.rows.now in
    let acc = c.in_ok-check_whole.ensures.accepted refl in
    let all : length (vec_items c.rows.answers) ≡ length x.values = omega (arith, c.rows-test.false) in
    let rows : length (cells x.values x.marks) ≡ length x.values = length-cells x.values x.marks acc.lengths in
    record {
      answers = said ∙ ap (λ (k : ℕ). map ((e.meaning c.args.evaluator.now).answer (partition e.WANTS_FRAMES x)) (range_with_len 0 k)) all;
      shown = subst (λ (z : Bool). ShownAll e.meaning c.args.evaluator.now (partition e.WANTS_FRAMES x) z c.args.step (vec_items c.rows.shown) c.rows.too_early) c.all_from_zero-settles.ensures (shown_all e.meaning c.args.evaluator.now (partition e.WANTS_FRAMES x) c.all_from_zero-settles.result c.args.step _ (vec_items c.rows.shown) c.rows.too_early c.rows.reach.end seen (all ∙ sym rows));
    }
