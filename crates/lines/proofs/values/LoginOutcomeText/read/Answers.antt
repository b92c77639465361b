use Rattle.std.proofs.Common.{rules, arith, ◌∙◌, ◌++◌, decimal}
use Rattle.column.specs.declared.kind.LoginOutcome.TheVariants.{Granted, Refused, TimedOut}
use Rattle.lines.proofs.Shown.{unsigned_number, unsigned_read}
use Rattle.lines.proofs.Passed.{led, still, stood}
use Rattle.lines.proofs.values.LoginOutcomeText.read.Goals as goal

pub returns-in_err-number-clause-back : goal.returns-in_err-number-clause-back
returns-in_err-number-clause-back c Granted fits rest e ends = absurd (search (rules, c.take.ensures.back rest e))
returns-in_err-number-clause-back c (Refused reason) fits rest e ends =
    let granted = still c.args.cursor.now c.take.new.self _ c.if-take.false c.take.ensures.step c.take.ensures.onward in
    let timed_out = still c.take.new.self c.take-2.new.self _ c.if-take-2.false c.take-2.ensures.step c.take-2.ensures.onward in
    let letter = c.expect.ensures.back (decimal reason ++ rest) (timed_out ∙ granted ∙ e) in
    let number = c.number.ensures.back _ reason (unsigned_number reason (omega (arith, fits))) (λ r h. unsigned_read 16 reason r fits (omega (arith, fits)) h.0) rest letter.1 ends in
    absurd (search (rules, number.0))
returns-in_err-number-clause-back c TimedOut fits rest e ends =
    let granted = still c.args.cursor.now c.take.new.self _ c.if-take.false c.take.ensures.step c.take.ensures.onward in
    absurd (search (rules, c.take-2.ensures.back rest (granted ∙ e)))

pub returns-clause-back : goal.returns-clause-back
returns-clause-back c Granted fits rest e ends = absurd (search (rules, c.take.ensures.back rest e))
returns-clause-back c (Refused reason) fits rest e ends =
    let granted = still c.args.cursor.now c.take.new.self _ c.if-take.false c.take.ensures.step c.take.ensures.onward in
    let timed_out = still c.take.new.self c.take-2.new.self _ c.if-take-2.false c.take-2.ensures.step c.take-2.ensures.onward in
    let letter = c.expect.ensures.back (decimal reason ++ rest) (timed_out ∙ granted ∙ e) in
    let number = c.number.ensures.back _ reason (unsigned_number reason (omega (arith, fits))) (λ r h. unsigned_read 16 reason r fits (omega (arith, fits)) h.0) rest letter.1 ends in
    (search (rules, number.0), number.1)
returns-clause-back c TimedOut fits rest e ends =
    let granted = still c.args.cursor.now c.take.new.self _ c.if-take.false c.take.ensures.step c.take.ensures.onward in
    absurd (search (rules, c.take-2.ensures.back rest (granted ∙ e)))

pub returns-clause-reads : goal.returns-clause-reads
returns-clause-reads c =
    let reason = c.in_ok-number.ensures.reads in (
      _,
      stood c.args.cursor.now c.take.new.self c.number.new.self _ c.if-take.false c.take.ensures.step c.take.ensures.onward
          ∙ stood c.take.new.self c.take-2.new.self c.number.new.self _ c.if-take-2.false c.take-2.ensures.step c.take-2.ensures.onward
          ∙ led c.take-2.new.self c.expect.new.self c.number.new.self _ c.expect.ensures.onward c.number.ensures.onward c.in_ok-expect.ensures.text,
      (reason.0.0.0, reason.0.1),
    )
