use Rattle.std.proofs.Common.{◌≡◌, ℕ, ◌+◌, length, take, vec_items, refl, sym, ap, ◌∙◌, subst, arith}
use Rattle.std.proofs.lemmas.List.{length_push, take_all}
use Rattle.run.specs.declared.run.Run.TheVariants.{Opened}
use Rattle.replay.specs.Act.{Acted, evaluator_of, evaluator_after, progress_of}
use Rattle.replay.specs.History.{history}
use Rattle.replay.proofs.Holds.{history-next}
use Rattle.replay.proofs.Going.{Going, going_start, going_more, going_ends}
use Rattle.replay.proofs.replay.replay.Goals.{in-Ok, in-Err}
use Rattle.replay.proofs.replay.replay.Goals as goal

pub loop-call-init : goal.loop-call-init
loop-call-init g c =
    let new = c.new.ensures in
    (going_start g.E.Evaluator.meaning g.E.RowEvaluator.stepped g.E.RowEvaluator.settling g.E.Evaluator.renewed c.args.evaluator.now g.E.Evaluator.WANTS_FRAMES c.args.from_zero (Opened c.new.result) new.renewed new.progress refl new.alike new.stands, ap length c.in_ok-entries.ensures.items)

pub loop-call-preserved : goal.loop-call-preserved
loop-call-preserved g c =
    let calls = c.args.calls.now in
    let i = c.loop-call.call-index in
    let notes = vec_items c.loop-call.entries in
    let notes' = vec_items c.push.new.self in
    let run = c.loop-call.run in
    let call = c.call-item.result in
    let run' = c.match-act_in_place.run in
    let entry = c.match-act_in_place.entry in
    let (going, long) = c.loop-call.invariant in
    let acts : Acted g.E.Evaluator.meaning g.E.Evaluator.WANTS_FRAMES call run run' entry × (evaluator_of run' ≡ evaluator_after g.E.RowEvaluator.stepped g.E.RowEvaluator.settling (progress_of run) call entry.outcome (evaluator_of run)) = elim c.match-act_in_place.branch [
      | in-Ok w ↦ rw w.run-is (rw w.entry-is (w.in-Ok.ensures.acted, w.in-Ok.ensures.leaves))
      | in-Err w ↦ rw w.run-is (rw w.entry-is (rw w.in-Err.ensures.acted.0 (rw (sym w.in-Err.ensures.acted.1) (w.act_close-moved.ensures.acted, w.act_close-moved.ensures.leaves))))
    ] in (
      subst (Going g.E.Evaluator.meaning g.E.RowEvaluator.stepped g.E.RowEvaluator.settling g.E.Evaluator.renewed c.args.evaluator.now g.E.Evaluator.WANTS_FRAMES c.args.from_zero run')
          (sym (history-next calls i call notes notes' entry long c.loop-call-test.true c.call-item.is c.in_ok-push.ensures.items))
          (going_more g.E.Evaluator.meaning g.E.RowEvaluator.stepped g.E.RowEvaluator.settling g.E.Evaluator.renewed c.args.evaluator.now g.E.Evaluator.WANTS_FRAMES c.args.from_zero g.met.E.Evaluator.lawful run run' (history (take i calls) notes) call entry going acts.0 acts.1),
      ap length c.in_ok-push.ensures.items ∙ (length_push notes entry ∙ ap (λ (k : ℕ). k + 1) long),
    )

pub returns : goal.returns
returns g c =
    let (going, long) = c.loop-call.invariant in
    let entries = vec_items c.loop-call.entries in
    let all : history (take c.loop-call.call-index c.args.calls.now) entries ≡ history c.args.calls.now entries = ap (λ x. history x entries) (take_all c.loop-call.call-index c.args.calls.now (omega arith)) in
    let law = going_ends g.E.Evaluator.meaning g.E.RowEvaluator.stepped g.E.RowEvaluator.settling g.E.Evaluator.renewed c.args.evaluator.now g.E.Evaluator.WANTS_FRAMES c.args.from_zero c.loop-call.run (history c.args.calls.now entries)
    (subst (Going g.E.Evaluator.meaning g.E.RowEvaluator.stepped g.E.RowEvaluator.settling g.E.Evaluator.renewed c.args.evaluator.now g.E.Evaluator.WANTS_FRAMES c.args.from_zero c.loop-call.run) all going) in
    (long ∙ omega arith, law.0, law.1, law.2)
