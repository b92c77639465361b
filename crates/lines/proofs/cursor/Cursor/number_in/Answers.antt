use Rattle.std.proofs.Common.{rules}
use Rattle.lines.proofs.Shown.{unsigned_number, unsigned_read}
use Rattle.lines.proofs.cursor.Cursor.number_in.Goals as goal

pub returns-in_err-n-clause-back : goal.returns-in_err-n-clause-back
returns-in_err-n-clause-back c = λ n within fresh small rest e ends.
    let number = c.number.ensures.back _ n (unsigned_number n small) (λ r h. unsigned_read 64 n r small small h.0) rest e ends in
    absurd (search (rules, number.0))

pub returns-then-contains-clause-back : goal.returns-then-contains-clause-back
returns-then-contains-clause-back c = λ n within fresh small rest e ends.
    let number = c.number.ensures.back _ n (unsigned_number n small) (λ r h. unsigned_read 64 n r small small h.0) rest e ends in
    (search (rules, number.0), number.1)

pub returns-clause-back : goal.returns-clause-back
returns-clause-back c = λ n within fresh small rest e ends.
    let number = c.number.ensures.back _ n (unsigned_number n small) (λ r h. unsigned_read 64 n r small small h.0) rest e ends in
    absurd (search (rules, number.0, within, fresh))
