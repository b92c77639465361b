use Rattle.std.proofs.Common.{◌≤◌, ◌++◌, length, ap, sym, subst, ◌∙◌, rules}
use Rattle.std.proofs.lemmas.Str.{IsCharBoundary-start}
use Rattle.std.specs.Str.{IsCharBoundary}
use Rattle.lines.specs.Cursors.{passed}
use Rattle.lines.proofs.Passed.{further, passed_join}
use Rattle.replayed.proofs.Words.{all_passed, word_end}
use Rattle.replayed.proofs.calls.read_op.Goals as goal

pub returns : goal.returns
returns c =
    let line = c.new-cursor.result in
    let behind = c.word-name.new.self in
    let end = c.read_named.new.cursor in
    let first = subst (λ n. IsCharBoundary line.text.now n) (sym c.new-cursor.ensures.at) (IsCharBoundary-start line.text.now c.word-name.ensures.utf8) in
    let within : behind.at ≤ length line.text.now = search rules in
    let last = word_end line.text.now line.at behind.at c.new-cursor.ensures.at c.word-name.ensures.utf8 within c.word-name.ensures.letters in
    let word = c.word-name.ensures.text first last in
    let whole = all_passed line end c.new-cursor.ensures.at (further line behind end c.word-name.ensures.onward c.read_named.ensures.onward) c.in_ok-end.ensures in
    let split = sym c.new-cursor.ensures.text ∙ (whole ∙ passed_join line behind end c.word-name.ensures.onward c.read_named.ensures.onward) in
    record { reads = (c.word-name.result.now, passed behind end, split ∙ ap (λ t. t ++ passed behind end) (sym word), c.in_ok-op.ensures.reads) }
