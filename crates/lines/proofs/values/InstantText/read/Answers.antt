use Rattle.std.proofs.Common.{rules}
use Rattle.lines.proofs.Shown.{signed_number, signed_read}
use Rattle.lines.proofs.values.InstantText.read.Goals as goal

pub returns-in_err-number-clause-back : goal.returns-in_err-number-clause-back
returns-in_err-number-clause-back c = λ x fits rest e ends.
    let number = c.number.ensures.back _ x.0 (signed_number x.0 fits) (λ s h. signed_read x.0 s fits h.0) rest e ends in
    absurd (search (rules, number.0))

pub returns-clause-back : goal.returns-clause-back
returns-clause-back c = λ x fits rest e ends.
    let number = c.number.ensures.back _ x.0 (signed_number x.0 fits) (λ s h. signed_read x.0 s fits h.0) rest e ends in
    (search (rules, number.0), number.1)
