use Rattle.std.proofs.Common.{◌≡◌, ◌+◌, length, rules}
use Rattle.lines.proofs.Numbers.{number_begins, number_stops, number_text, left_behind}
use Rattle.lines.proofs.cursor.Cursor.number.Goals as goal

pub returns-in_err-digits-clause-back : goal.returns-in_err-digits-clause-back
returns-in_err-digits-clause-back g c = λ bs n is reads rest e ends.
    let xs = c.args.self.now.text.now in
    let a = c.args.self.now.at in
    let stop : c.number_end-end.result ≡ a + length bs = search (rules, c.number_end-end.ensures.back bs rest) in
    absurd (search (rules, stop, number_begins xs bs rest a e is, number_stops xs bs rest a (search rules) e is))

pub returns-in_err-n-clause-back : goal.returns-in_err-n-clause-back
returns-in_err-n-clause-back g c = λ bs n is reads rest e ends.
    let xs = c.args.self.now.text.now in
    let a = c.args.self.now.at in
    let stop : c.number_end-end.result ≡ a + length bs = search (rules, c.number_end-end.ensures.back bs rest) in
    let same : c.in_ok-digits.digits.now ≡ bs = search (rules, stop, number_text xs bs rest a e) in
    absurd (search (rules, same, reads c.parse.result))

pub returns-clause-back : goal.returns-clause-back
returns-clause-back g c = λ bs n is reads rest e ends.
    let xs = c.args.self.now.text.now in
    let a = c.args.self.now.at in
    let stop : c.number_end-end.result ≡ a + length bs = search (rules, c.number_end-end.ensures.back bs rest) in
    let same : c.in_ok-digits.digits.now ≡ bs = search (rules, stop, number_text xs bs rest a e) in
    (search (rules, same, reads c.parse.result), search (rules, stop, left_behind xs bs rest a e))
