use Rattle.std.proofs.Common.{◌≡◌, ◌<◌, ◌++◌, ◌∙◌, [], codes, length, sym, ap, rules, arith}
use Rattle.std.proofs.lemmas.List.{append-nil, length-drop}
use Rattle.lines.specs.Cursors.{ahead}
use Rattle.drive.proofs.whole.answer_whole.Goals as goal

pub returns-in_err-handed-clause-back : goal.returns-in_err-handed-clause-back
returns-in_err-handed-clause-back g c = λ x l text lengths h says is.
    search (rules, c.read.ensures.back x text (codes " O" ++ lengths) h is)

pub returns-in_err-expect-clause-back : goal.returns-in_err-expect-clause-back
returns-in_err-expect-clause-back g c = λ x l text lengths h says is.
    let handed = c.read.ensures.back x text (codes " O" ++ lengths) h is in
    let begun : ahead c.read.new.cursor ≡ codes " O" ++ lengths = search (rules, handed) in
    absurd (search (rules, (c.expect.ensures.back _ begun).0))

pub returns-in_err-expect-2-clause-back : goal.returns-in_err-expect-2-clause-back
returns-in_err-expect-2-clause-back g c = λ x l text lengths h says is.
    let handed = c.read.ensures.back x text (codes " O" ++ lengths) h is in
    let begun : ahead c.read.new.cursor ≡ codes " O" ++ lengths = search (rules, handed) in
    absurd (search (rules, (c.expect-2.ensures.back _ (c.expect.ensures.back _ begun).1).0))

pub returns-in_err-lengths-clause-back : goal.returns-in_err-lengths-clause-back
returns-in_err-lengths-clause-back g c = λ x l text lengths h says is.
    let handed = c.read.ensures.back x text (codes " O" ++ lengths) h is in
    let begun : ahead c.read.new.cursor ≡ codes " O" ++ lengths = search (rules, handed) in
    let letter = (c.expect-2.ensures.back _ (c.expect.ensures.back _ begun).1).1 in
    let read = c.read_lengths.ensures.back l lengths says [] (letter ∙ sym (append-nil lengths)) (λ k. omega (arith, k)) in
    absurd (search (rules, read.0))

pub returns-in_err-end-clause-back : goal.returns-in_err-end-clause-back
returns-in_err-end-clause-back g c = λ x l text lengths h says is.
    let handed = c.read.ensures.back x text (codes " O" ++ lengths) h is in
    let begun : ahead c.read.new.cursor ≡ codes " O" ++ lengths = search (rules, handed) in
    let letter = (c.expect-2.ensures.back _ (c.expect.ensures.back _ begun).1).1 in
    let read = c.read_lengths.ensures.back l lengths says [] (letter ∙ sym (append-nil lengths)) (λ k. omega (arith, k)) in
    let more : c.read_lengths.new.cursor.at < length c.read_lengths.new.cursor.text.now = search (rules, c.end.ensures) in
    absurd (omega (arith, more, ap length read.1, length-drop c.read_lengths.new.cursor.at c.read_lengths.new.cursor.text.now))

pub returns-in-Ok-clause-back : goal.returns-in-Ok-clause-back
returns-in-Ok-clause-back g c = λ x l text lengths h says is.
    let handed = c.read.ensures.back x text (codes " O" ++ lengths) h is in
    let begun : ahead c.read.new.cursor ≡ codes " O" ++ lengths = search (rules, handed) in
    let letter = (c.expect-2.ensures.back _ (c.expect.ensures.back _ begun).1).1 in
    let read = c.read_lengths.ensures.back l lengths says [] (letter ∙ sym (append-nil lengths)) (λ k. omega (arith, k)) in
    search (rules, handed, read.0)
