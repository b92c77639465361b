use Rattle.std.proofs.Common.{◌≡◌, ◌+◌, ◌++◌, ◌<◌, codes, length, slice_index, ap, sym, subst, ◌∙◌, rules, arith}
use Rattle.std.proofs.lemmas.Str.{IsCharBoundary-after_ascii}
use Rattle.std.specs.Str.{IsCharBoundary, IsUtf8}
use Rattle.lines.specs.Cursors.{passed}
use Rattle.lines.proofs.Passed.{further, led, passed_join}
use Rattle.drive.proofs.Parts.{word_bounds}
use Rattle.drive.proofs.ops.read_op.Goals as goal

pub returns-clause-reads : goal.returns-clause-reads
returns-clause-reads g c =
    let xs = c.args.cursor.now.text.now in
    let behind = c.word-name.new.self in
    let end = c.expect-2.new.self in
    let within : behind.at < length xs = search rules in
    let brace : slice_index xs behind.at ≡ 123 = search rules in
    let bounds = word_bounds xs c.args.cursor.now.at behind.at (search rules) within brace c.word-name.ensures.letters in
    let inner = passed_join c.expect.new.self c.read_named.new.cursor end c.read_named.ensures.onward c.expect-2.ensures.onward ∙ ap (λ t. passed c.expect.new.self c.read_named.new.cursor ++ t) c.in_ok-expect-2.ensures.text in
    let braces = led behind c.expect.new.self end (codes "{") c.expect.ensures.onward (further c.expect.new.self c.read_named.new.cursor end c.read_named.ensures.onward c.expect-2.ensures.onward) c.in_ok-expect.ensures.text ∙ ap (λ t. codes "{" ++ t) inner in
    (c.word-name.result.now, _, led c.args.cursor.now behind end c.word-name.result.now c.word-name.ensures.onward (search rules) (sym (c.word-name.ensures.text bounds.0 bounds.1)) ∙ ap (λ t. c.word-name.result.now ++ t) braces, c.in_ok-op.ensures.reads)

pub returns-clause-bounds : goal.returns-clause-bounds
returns-clause-bounds g c =
    let xs = c.args.cursor.now.text.now in
    let behind = c.word-name.new.self in
    let within : behind.at < length xs = search rules in
    let brace : slice_index xs behind.at ≡ 123 = search rules in
    let bounds = word_bounds xs c.args.cursor.now.at behind.at (search rules) within brace c.word-name.ensures.letters in
    let ys = c.read_named.new.cursor.text.now in
    let last = c.read_named.new.cursor.at in
    let same : c.expect-2.new.self.text.now ≡ ys = search rules in
    let past : c.expect-2.new.self.at ≡ last + 1 = search rules in
    let closing : slice_index ys last ≡ 125 = search rules in
    let inside : last < length ys = search rules in
    let utf8 : IsUtf8 ys = search (rules, c.word-name.ensures.utf8) in
    let end = IsCharBoundary-after_ascii ys last utf8 inside (omega (arith, closing)) in
    (bounds.0, subst (λ t. IsCharBoundary t c.expect-2.new.self.at) (sym same) (subst (IsCharBoundary ys) (sym past) end))
