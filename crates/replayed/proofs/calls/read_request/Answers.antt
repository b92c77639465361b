use Rattle.std.proofs.Common.{◌++◌, codes, refl, ap, ◌∙◌, rules}
use Rattle.lines.specs.Cursors.{passed}
use Rattle.lines.proofs.Passed.{further, led, parted, passed_join}
use Rattle.replayed.proofs.calls.read_request.Goals as goal

pub returns-clause-reads : goal.returns-clause-reads
returns-clause-reads c =
    let blank = c.expect.new.self in
    let first = c.number_in.new.self in
    let between = c.expect-2.new.self in
    let last = c.number_in-2.new.self in
    let end = c.read_frame.new.cursor in
    let behind = further between last end c.number_in-2.ensures.onward c.read_frame.ensures.onward in
    let rest = passed_join between last end c.number_in-2.ensures.onward c.read_frame.ensures.onward in
    let shown = parted blank first between end (codes " ") c.number_in.ensures.onward c.expect-2.ensures.onward behind c.in_ok-expect-2.ensures.text ∙ ap (λ t. passed blank first ++ (codes " " ++ t)) rest in
    let ahead = further blank first end c.number_in.ensures.onward (further first between end c.expect-2.ensures.onward behind) in
    let all = led c.args.cursor.now blank end (codes " ") c.expect.ensures.onward ahead c.in_ok-expect.ensures.text ∙ ap (λ t. codes " " ++ t) shown in
    (refl, (_, _, _, all, c.in_ok-from.ensures.reads, c.in_ok-to.ensures.reads, c.in_ok-frame.ensures.reads), search rules, search rules)
