use Rattle.std.proofs.Common.{inl, inr, ◌∷◌, [], ap, refl, ◌∙◌, rules}
use Rattle.std.proofs.lemmas.Result.{IfOk-weaker}
use Rattle.lines.proofs.Passed.{further, led, stood}
use Rattle.lines.proofs.columns.read_spans.Goals as goal

pub returns-then-take-clause-reads : goal.returns-then-take-clause-reads
returns-then-take-clause-reads c =
    let dash = c.take.ensures.text (search rules) in
    (_, led c.args.cursor.now c.expect.new.self c.take.new.self (c.args.letter ∷ []) c.expect.ensures.onward c.take.ensures.onward c.in_ok-expect.ensures.text ∙ ap (λ t. c.args.letter ∷ t) dash, inr (refl, search rules))

pub returns-clause-reads : goal.returns-clause-reads
returns-clause-reads c =
    let onward = further c.expect.new.self c.take.new.self c.read_list.new.cursor c.take.ensures.onward c.read_list.ensures.onward in
    let begun = led c.args.cursor.now c.expect.new.self c.read_list.new.cursor (c.args.letter ∷ []) c.expect.ensures.onward onward c.in_ok-expect.ensures.text in
    let list = stood c.expect.new.self c.take.new.self c.read_list.new.cursor _ c.if-take.false c.take.ensures.step c.take.ensures.onward in
    IfOk-weaker c.read_list.result _ _ (λ v reads. (_, begun ∙ ap (λ t. c.args.letter ∷ t) list, inl reads)) c.read_list.ensures.reads
