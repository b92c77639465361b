use Rattle.std.proofs.Common.{◌≡◌, ◌+◌, [], ◌∷◌, ◌++◌, codes, length, string_bytes, vec_items, subst, rules}
use Rattle.std.proofs.lemmas.List.{append-nil, nil_from_length}
use Rattle.std.specs.Iterator.Adapters.{enumerate_count, enumerate_source, zip_first, zip_second}
use Rattle.std.specs.Slice.Iter.{iter_rest}
use Rattle.drive.specs.Outcomes.{op_text}
use Rattle.drive.specs.Runs.{TellsAt, TellsSteps}
use Rattle.drive.proofs.RunTold.{tells_none, tells_one}
use Rattle.drive.proofs.runs.answer_run.Goals as goal

pub loop-i-preserved : goal.loop-i-preserved
loop-i-preserved g c =
    let tells = TellsAt g.E.Answer.Show.text g.E.Evaluator.meaning c.args.evaluator.now g.E.Evaluator.WANTS_FRAMES c.args.from_zero (vec_items c.in_ok-calls.calls) in
    let before = c.loop-i.i-iterator in
    let behind = c.next.new.self in
    let steps : iter_rest (zip_first (enumerate_source before)) ≡ c.in-Some.step.now ∷ iter_rest (zip_first (enumerate_source behind)) = search rules in
    let entries : iter_rest (zip_second (enumerate_source before)) ≡ c.in-Some.entry.now ∷ iter_rest (zip_second (enumerate_source behind)) = search rules in
    let count : enumerate_count behind ≡ enumerate_count before + 1 = search rules in
    let outcome = op_text g.E.Answer.Show.text c.in_ok-outcome.outcome in
    let told : tells (enumerate_count before) c.in-Some.step.now.op c.in-Some.entry.now.outcome outcome = search rules in
    let written : string_bytes c.write.new.self ≡ string_bytes c.loop-i.text ++ (codes " " ++ (c.in-Some.step.now.text.now ++ (codes ">" ++ outcome))) = search rules in
    (search rules, search rules, search rules, search rules, tells_one tells (enumerate_count before) (enumerate_count behind) c.in-Some.step.now _ _ _ c.in-Some.entry.now _ _ _ outcome (string_bytes c.loop-i.text) (string_bytes c.write.new.self) steps entries count told written c.loop-i.invariant.4)

pub returns : goal.returns
returns g c =
    let tells = TellsAt g.E.Answer.Show.text g.E.Evaluator.meaning c.args.evaluator.now g.E.Evaluator.WANTS_FRAMES c.args.from_zero (vec_items c.in_ok-calls.calls) in
    let here = c.loop-i.i-iterator in
    let source = enumerate_source here in
    let none : length (iter_rest (zip_first source)) ≡ 0 = search rules in
    let left = nil_from_length (iter_rest (zip_first source)) none in
    let all : TellsSteps tells 0 c.args.steps.now (vec_items c.in_ok-played.played.entries) (string_bytes c.loop-i.text ++ []) = search (rules, c.loop-i.invariant.4 [] (tells_none tells (enumerate_count here) (iter_rest (zip_first source)) (iter_rest (zip_second source)) left)) in
    record {
      calls = vec_items c.in_ok-calls.calls;
      entries = vec_items c.in_ok-played.played.entries;
      stand = search rules;
      replayed = search rules;
      told = subst (TellsSteps tells 0 c.args.steps.now (vec_items c.in_ok-played.played.entries)) (append-nil (string_bytes c.loop-i.text)) all;
    }
