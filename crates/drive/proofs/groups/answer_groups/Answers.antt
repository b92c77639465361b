use Rattle.std.proofs.Common.{◌≡◌, ◌<◌, ◌++◌, ◌∙◌, [], codes, decimal, length, sym, ap, rules, arith}
use Rattle.std.proofs.lemmas.List.{append-nil, length-drop}
use Rattle.lines.specs.Cursors.{ahead}
use Rattle.drive.proofs.groups.answer_groups.Goals as goal

pub returns-in_err-length : goal.returns-in_err-length
returns-in_err-length g c = λ values marks n fits low is.
    let column = c.read_column.ensures.back values marks (codes " O" ++ decimal n) fits is in
    let begun : ahead c.read_column.new.cursor ≡ codes " O" ++ decimal n = search (rules, column) in
    let letter = (c.expect-2.ensures.back _ (c.expect.ensures.back _ begun).1).1 in
    let read = c.read_length.ensures.back n low [] (letter ∙ sym (append-nil (decimal n))) (λ k. omega (arith, k)) in
    absurd (search (rules, read.0))

pub returns-in_err-end : goal.returns-in_err-end
returns-in_err-end g c = λ values marks n fits low is.
    let column = c.read_column.ensures.back values marks (codes " O" ++ decimal n) fits is in
    let begun : ahead c.read_column.new.cursor ≡ codes " O" ++ decimal n = search (rules, column) in
    let letter = (c.expect-2.ensures.back _ (c.expect.ensures.back _ begun).1).1 in
    let read = c.read_length.ensures.back n low [] (letter ∙ sym (append-nil (decimal n))) (λ k. omega (arith, k)) in
    let more : c.read_length.new.cursor.at < length c.read_length.new.cursor.text.now = search (rules, c.end.ensures) in
    absurd (omega (arith, more, ap length read.1, length-drop c.read_length.new.cursor.at c.read_length.new.cursor.text.now))

pub returns : goal.returns
returns g c = λ values marks n fits low is.
    let column = c.read_column.ensures.back values marks (codes " O" ++ decimal n) fits is in
    let begun : ahead c.read_column.new.cursor ≡ codes " O" ++ decimal n = search (rules, column) in
    let letter = (c.expect-2.ensures.back _ (c.expect.ensures.back _ begun).1).1 in
    let read = c.read_length.ensures.back n low [] (letter ∙ sym (append-nil (decimal n))) (λ k. omega (arith, k)) in
    search (rules, column, read.0)
