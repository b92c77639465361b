use Rattle.std.proofs.Common.{rules}
use Rattle.std.proofs.lemmas.Result.{MatchResult-weaker}
use Rattle.drive.proofs.line.whole_line.Goals as goal

pub returns-in_err-outcome-clause-back : goal.returns-in_err-outcome-clause-back
returns-in_err-outcome-clause-back g c = λ x l text lengths h says is.
    search (rules, c.answer_whole.ensures.back x l text lengths h says is)

pub returns-clause-back : goal.returns-clause-back
returns-clause-back g c = λ x l text lengths h says is.
    let told = c.answer_whole.ensures.back x l text lengths h says is in
    MatchResult-weaker c.answered.result c.answered.ensures (λ s q. search (rules, told, q)) (λ stop q. q)
