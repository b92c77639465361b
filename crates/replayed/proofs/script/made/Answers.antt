use Rattle.std.proofs.Common.{◌≡◌, [], ◌∷◌, ◌++◌, length, string_bytes, vec_items, subst, rules}
use Rattle.std.proofs.lemmas.List.{append-nil, nil_from_length}
use Rattle.std.specs.Iterator.Adapters.{zip_first, zip_second}
use Rattle.std.specs.Slice.Iter.{iter_rest}
use Rattle.replay.specs.History.{history}
use Rattle.replayed.specs.Replays.{TellsSteps, ending}
use Rattle.replayed.proofs.Steps.{tells_none, tells_one}
use Rattle.replayed.proofs.script.made.Goals as goal

pub loop-step-preserved : goal.loop-step-preserved
loop-step-preserved g c =
    let before = c.loop-step.step-iterator in
    let behind = c.next.new.self in
    let start = c.into_iter-step-iterator.result in
    let steps : iter_rest (zip_first before) ≡ c.in-Some.step.now ∷ iter_rest (zip_first behind) = search rules in
    let entries : iter_rest (zip_second before) ≡ c.in-Some.entry.now ∷ iter_rest (zip_second behind) = search rules in
    let added = c.in_ok-push_step.ensures in
    (search rules, search rules, search rules, tells_one g.E.Answer.Show.text c.ending_of-ending.result.0 c.in-Some.step.now _ _ _ c.in-Some.entry.now _ _ _ (string_bytes c.loop-step.text) (string_bytes c.push_step.new.text) steps entries added c.loop-step.invariant.3)

pub returns : goal.returns
returns g c =
    let tells = TellsSteps g.E.Answer.Show.text c.ending_of-ending.result.0 in
    let here = c.loop-step.step-iterator in
    let none : length (iter_rest (zip_first here)) ≡ 0 = search rules in
    let left = nil_from_length (iter_rest (zip_first here)) none in
    let all : tells (vec_items c.args.script.now.steps) (vec_items c.in_ok-run.entries) (string_bytes c.loop-step.text ++ []) = search (rules, c.loop-step.invariant.3 [] (tells_none g.E.Answer.Show.text c.ending_of-ending.result.0 (iter_rest (zip_first here)) (iter_rest (zip_second here)) left)) in
    let calls = vec_items c.in_ok-calls.calls in
    let noted = vec_items c.in_ok-run.entries in
    let end : c.ending_of-ending.result.0 ≡ ending (history calls noted) = search rules in
    let whole = subst (tells (vec_items c.args.script.now.steps) noted) (append-nil (string_bytes c.loop-step.text)) all in
    record {
      calls = calls;
      entries = noted;
      stand = search rules;
      replayed = search rules;
      told = subst (λ e. TellsSteps g.E.Answer.Show.text e (vec_items c.args.script.now.steps) noted (string_bytes c.loop-step.text)) end whole;
    }
