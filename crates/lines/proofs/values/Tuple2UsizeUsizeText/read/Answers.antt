use Rattle.std.proofs.Common.{◌++◌, codes, decimal, rules}
use Rattle.lines.proofs.Shown.{parts, unsigned_number, unsigned_read}
use Rattle.lines.proofs.Passed.{parted}
use Rattle.lines.proofs.values.Tuple2UsizeUsizeText.read.Goals as goal

pub returns-in_err-start-clause-back : goal.returns-in_err-start-clause-back
returns-in_err-start-clause-back c = λ x fits rest e ends.
    let start = c.number.ensures.back _ x.0 (unsigned_number x.0 fits.0) (λ r h. unsigned_read 64 x.0 r fits.0 fits.0 h.0) (codes "-" ++ (decimal x.1 ++ rest)) (parts _ (decimal x.0) (codes "-") (decimal x.1) rest e) (search rules) in
    absurd (search (rules, start.0))

pub returns-in_err-expect-clause-back : goal.returns-in_err-expect-clause-back
returns-in_err-expect-clause-back c = λ x fits rest e ends.
    let start = c.number.ensures.back _ x.0 (unsigned_number x.0 fits.0) (λ r h. unsigned_read 64 x.0 r fits.0 fits.0 h.0) (codes "-" ++ (decimal x.1 ++ rest)) (parts _ (decimal x.0) (codes "-") (decimal x.1) rest e) (search rules) in
    let between = c.expect.ensures.back (decimal x.1 ++ rest) start.1 in
    absurd (search (rules, between.0))

pub returns-in_err-end-clause-back : goal.returns-in_err-end-clause-back
returns-in_err-end-clause-back c = λ x fits rest e ends.
    let start = c.number.ensures.back _ x.0 (unsigned_number x.0 fits.0) (λ r h. unsigned_read 64 x.0 r fits.0 fits.0 h.0) (codes "-" ++ (decimal x.1 ++ rest)) (parts _ (decimal x.0) (codes "-") (decimal x.1) rest e) (search rules) in
    let between = c.expect.ensures.back (decimal x.1 ++ rest) start.1 in
    let end = c.number-2.ensures.back _ x.1 (unsigned_number x.1 fits.1) (λ r h. unsigned_read 64 x.1 r fits.1 fits.1 h.0) rest between.1 ends in
    absurd (search (rules, end.0))

pub returns-clause-back : goal.returns-clause-back
returns-clause-back c = λ x fits rest e ends.
    let start = c.number.ensures.back _ x.0 (unsigned_number x.0 fits.0) (λ r h. unsigned_read 64 x.0 r fits.0 fits.0 h.0) (codes "-" ++ (decimal x.1 ++ rest)) (parts _ (decimal x.0) (codes "-") (decimal x.1) rest e) (search rules) in
    let between = c.expect.ensures.back (decimal x.1 ++ rest) start.1 in
    let end = c.number-2.ensures.back _ x.1 (unsigned_number x.1 fits.1) (λ r h. unsigned_read 64 x.1 r fits.1 fits.1 h.0) rest between.1 ends in
    (search (rules, start.0, end.0), end.1)

pub returns-clause-reads : goal.returns-clause-reads
returns-clause-reads c =
    let start = c.in_ok-start.ensures.reads in
    let end = c.in_ok-end.ensures.reads in
    (_, _, parted c.args.cursor.now c.number.new.self c.expect.new.self c.number-2.new.self _ c.number.ensures.onward c.expect.ensures.onward c.number-2.ensures.onward c.in_ok-expect.ensures.text, (start.0.0.0, start.0.1), (end.0.0.0, end.0.1))
