use Rattle.std.proofs.Common.{◌≡◌, ◌+◌, ◌<◌, ◌-◌, length, get_or, rules, arith}
use Rattle.std.specs.Int.{IsInRange}
use Rattle.lines.proofs.Numbers.{ascii_begins, ascii_stops, left_behind, number_text, run_ends}
use Rattle.lines.proofs.cursor.Cursor.word.Goals as goal

pub returns-clause-letters : goal.returns-clause-letters
returns-clause-letters c = λ k h. search (rules, c.run.ensures.each k h)

pub returns-clause-back : goal.returns-clause-back
returns-clause-back c = λ bs rest word e ends.
    let xs = c.args.self.now.text.now in
    let a = c.args.self.now.at in
    let first : get_or bs 0 0 < 128 = omega (arith, word.1 0 word.0) in
    let last : get_or bs (length bs - 1) 0 < 128 = omega (arith, word.1 (length bs - 1) (omega (arith, word.0))) in
    let stop : c.run.new.self.at ≡ a + length bs = run_ends (IsInRange 97 122) xs bs rest a c.run.new.self.at e word.1 (λ some. ends) (search rules) (search rules) (λ h. search (rules, c.run.ensures.stops h)) (λ k h. search (rules, c.run.ensures.each k h)) in
    (search (rules, c.run.ensures.text, stop, ascii_begins xs bs rest a e word.0 first, ascii_stops xs bs rest a c.run.ensures.utf8 e word.0 last, number_text xs bs rest a e), search (rules, stop, left_behind xs bs rest a e))
