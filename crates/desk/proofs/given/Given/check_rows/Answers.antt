use Rattle.std.proofs.Common.{◌≡◌, rules}
use Rattle.desk.proofs.given.Given.check_rows.Goals as goal

pub returns-in-Some-clause-refused : goal.returns-in-Some-clause-refused
returns-in-Some-clause-refused g c =
    let same : c.args.whole.now ≡ c.as_slice.result.now = search rules in
    let none = c.first_difference.ensures same in
    absurd (cc)
