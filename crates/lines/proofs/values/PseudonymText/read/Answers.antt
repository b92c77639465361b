use Rattle.std.proofs.Common.{◌++◌, codes, decimal, rules}
use Rattle.lines.proofs.Shown.{parts, unsigned_number, unsigned_read}
use Rattle.lines.proofs.Passed.{parted}
use Rattle.lines.proofs.values.PseudonymText.read.Goals as goal

pub returns-in_err-high-clause-back : goal.returns-in_err-high-clause-back
returns-in_err-high-clause-back c = λ x fits rest e ends.
    let high = c.number.ensures.back _ x.high (unsigned_number x.high fits.0) (λ r h. unsigned_read 64 x.high r fits.0 fits.0 h.0) (codes ":" ++ (decimal x.low ++ rest)) (parts _ (decimal x.high) (codes ":") (decimal x.low) rest e) (search rules) in
    absurd (search (rules, high.0))

pub returns-in_err-expect-clause-back : goal.returns-in_err-expect-clause-back
returns-in_err-expect-clause-back c = λ x fits rest e ends.
    let high = c.number.ensures.back _ x.high (unsigned_number x.high fits.0) (λ r h. unsigned_read 64 x.high r fits.0 fits.0 h.0) (codes ":" ++ (decimal x.low ++ rest)) (parts _ (decimal x.high) (codes ":") (decimal x.low) rest e) (search rules) in
    let between = c.expect.ensures.back (decimal x.low ++ rest) high.1 in
    absurd (search (rules, between.0))

pub returns-in_err-low-clause-back : goal.returns-in_err-low-clause-back
returns-in_err-low-clause-back c = λ x fits rest e ends.
    let high = c.number.ensures.back _ x.high (unsigned_number x.high fits.0) (λ r h. unsigned_read 64 x.high r fits.0 fits.0 h.0) (codes ":" ++ (decimal x.low ++ rest)) (parts _ (decimal x.high) (codes ":") (decimal x.low) rest e) (search rules) in
    let between = c.expect.ensures.back (decimal x.low ++ rest) high.1 in
    let low = c.number-2.ensures.back _ x.low (unsigned_number x.low fits.1) (λ r h. unsigned_read 64 x.low r fits.1 fits.1 h.0) rest between.1 ends in
    absurd (search (rules, low.0))

pub returns-clause-back : goal.returns-clause-back
returns-clause-back c = λ x fits rest e ends.
    let high = c.number.ensures.back _ x.high (unsigned_number x.high fits.0) (λ r h. unsigned_read 64 x.high r fits.0 fits.0 h.0) (codes ":" ++ (decimal x.low ++ rest)) (parts _ (decimal x.high) (codes ":") (decimal x.low) rest e) (search rules) in
    let between = c.expect.ensures.back (decimal x.low ++ rest) high.1 in
    let low = c.number-2.ensures.back _ x.low (unsigned_number x.low fits.1) (λ r h. unsigned_read 64 x.low r fits.1 fits.1 h.0) rest between.1 ends in
    (search (rules, high.0, low.0), low.1)

pub returns-clause-reads : goal.returns-clause-reads
returns-clause-reads c =
    let high = c.in_ok-high.ensures.reads in
    let low = c.in_ok-low.ensures.reads in
    (_, _, parted c.args.cursor.now c.number.new.self c.expect.new.self c.number-2.new.self _ c.number.ensures.onward c.expect.ensures.onward c.number-2.ensures.onward c.in_ok-expect.ensures.text, (high.0.0.0, high.0.1), (low.0.0.0, low.0.1))
