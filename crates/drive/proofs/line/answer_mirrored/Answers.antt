use Rattle.std.proofs.Common.{ap, ◌∙◌}
use Rattle.std.proofs.lemmas.Result.{MatchResult-weaker}
use Rattle.drive.specs.Outcomes.{line_text}
use Rattle.drive.specs.Whole.{slot_count}
use Rattle.drive.proofs.Mirrors.{mirror_text}
use Rattle.drive.proofs.line.answer_mirrored.Goals as goal

pub returns-in-Mirror-clause-mirror : goal.returns-in-Mirror-clause-mirror
returns-in-Mirror-clause-mirror g c = λ form x l text lengths h says is.
    let mirror = mirror_text g.E.Value.Kind.same g.E.Answer.Show.text g.E.Evaluator.WANTS_FRAMES g.E.Evaluator.WANTS_GROUPS g.E.Evaluator.meaning g.E.MirrorEvaluator.mirrored c.args.made c.mirror_of.result x (slot_count l) c.mirror_of.ensures in
    MatchResult-weaker c.whole_line.result (c.whole_line.ensures.back x l text lengths h says is) (λ s q. q ∙ ap (line_text c.args.line.now.text.now) mirror) (λ stop q. q)
