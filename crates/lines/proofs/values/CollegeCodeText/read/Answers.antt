use Rattle.std.proofs.Common.{rules}
use Rattle.lines.proofs.Shown.{unsigned_number, unsigned_read}
use Rattle.lines.proofs.values.CollegeCodeText.read.Goals as goal

pub returns-in_err-number-clause-back : goal.returns-in_err-number-clause-back
returns-in_err-number-clause-back c = λ x fits rest e ends.
    let number = c.number.ensures.back _ x.0 (unsigned_number x.0 fits) (λ s h. unsigned_read 64 x.0 s fits fits h.0) rest e ends in
    absurd (search (rules, number.0))

pub returns-clause-back : goal.returns-clause-back
returns-clause-back c = λ x fits rest e ends.
    let number = c.number.ensures.back _ x.0 (unsigned_number x.0 fits) (λ s h. unsigned_read 64 x.0 s fits fits h.0) rest e ends in
    (search (rules, number.0), number.1)
