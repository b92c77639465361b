use Rattle.std.proofs.Common.{◌≡◌, ◌++◌, ap, string_bytes, subst, sym, take, vec_items, ◌∙◌, rules}
use Rattle.std.proofs.lemmas.List.{append_assoc}
use Rattle.std.specs.Str.{IsCharBoundary}
use Rattle.lines.specs.Cursors.{ahead, passed}
use Rattle.drive.specs.Runs.{RunLine, RunTold}
use Rattle.drive.proofs.Parts.{ahead_split, front_split, steps_begin}
use Rattle.drive.proofs.line.run_line.Goals as goal

pub returns-in-Ok : goal.returns-in-Ok
returns-in-Ok g c =
    let line = c.args.cursor.now in
    let behind = c.read_setting.new.cursor in
    let before = take line.at line.text.now in
    let setting = passed line behind in
    let outcomes = string_bytes c.in_ok-ops-in-Ok.ops in
    let reads = c.in_ok-steps.ensures.reads in
    let here = steps_begin g.E.Value.Text.reads behind (vec_items c.in_ok-steps.steps) (search rules) reads in
    let written : string_bytes c.in_ok-format-in-Ok.field-0 ≡ c.since-head.result.now ++ outcomes = search rules in
    let told : RunTold g.E.Answer.Show.text g.E.Evaluator.meaning c.in-Ok.evaluator g.E.Evaluator.WANTS_FRAMES c.in_ok-from_zero.from_zero (vec_items c.in_ok-steps.steps) outcomes = search rules in
    let all : IsCharBoundary line.text.now 0 → RunLine g.E.Value.Text.reads (RunTold g.E.Answer.Show.text g.E.Evaluator.meaning c.in-Ok.evaluator g.E.Evaluator.WANTS_FRAMES) before (ahead line) (string_bytes c.in_ok-format-in-Ok.field-0) = λ start.
    let first = subst (λ t. IsCharBoundary t 0) (sym c.read_setting.ensures.onward.0) start in
    let head : c.since-head.result.now ≡ before ++ setting = c.since-head.ensures first here ∙ front_split line behind c.read_setting.ensures.onward in
    (c.in_ok-from_zero.from_zero, setting, ahead behind, vec_items c.in_ok-steps.steps, outcomes, ahead_split line behind c.read_setting.ensures.onward, c.in_ok-from_zero.ensures.reads, reads, told, written ∙ ap (λ t. t ++ outcomes) head ∙ append_assoc before setting outcomes) in
    search (rules, all)
