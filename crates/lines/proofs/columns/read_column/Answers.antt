use Rattle.std.proofs.Common.{◌≡◌, ◌∷◌, ◌++◌, [], codes, ap, ◌∙◌, rules}
use Rattle.std.proofs.lemmas.List.{append_assoc}
use Rattle.lines.specs.Cursors.{ahead, passed}
use Rattle.lines.specs.Texts.{list_text, mark_text}
use Rattle.lines.proofs.Lists.{marks_fit}
use Rattle.lines.proofs.Passed.{led, parted}
use Rattle.lines.proofs.columns.read_column.Goals as goal

pub returns-in_err-marks-clause-back : goal.returns-in_err-marks-clause-back
returns-in_err-marks-clause-back g c = λ values marks rest fits e.
    let begun = (c.expect.ensures.back _ e).1 ∙ append_assoc (list_text g.K.Show.text values) (c.args.between ∷ (codes "M" ++ list_text mark_text marks)) rest in
    let read : ahead c.read_list.new.cursor ≡ c.args.between ∷ (codes "M" ++ (list_text mark_text marks ++ rest)) = search (rules, c.read_list.ensures.back values _ fits begun) in
    let marked = (c.expect-3.ensures.back _ (c.expect-2.ensures.back _ read).1).1 in
    search (rules, c.read_list-2.ensures.back marks rest (marks_fit marks) marked)

pub returns-clause-back : goal.returns-clause-back
returns-clause-back g c = λ values marks rest fits e.
    let begun = (c.expect.ensures.back _ e).1 ∙ append_assoc (list_text g.K.Show.text values) (c.args.between ∷ (codes "M" ++ list_text mark_text marks)) rest in
    let listed = c.read_list.ensures.back values (c.args.between ∷ (codes "M" ++ (list_text mark_text marks ++ rest))) fits begun in
    let read : ahead c.read_list.new.cursor ≡ c.args.between ∷ (codes "M" ++ (list_text mark_text marks ++ rest)) = search (rules, listed) in
    let marked = (c.expect-3.ensures.back _ (c.expect-2.ensures.back _ read).1).1 in
    let last = c.read_list-2.ensures.back marks rest (marks_fit marks) marked in
    (search (rules, listed), search (rules, last), search (rules, last))

pub returns-clause-reads : goal.returns-clause-reads
returns-clause-reads g c =
    let middle : passed c.read_list.new.cursor c.expect-3.new.self ≡ c.args.between ∷ codes "M" = led c.read_list.new.cursor c.expect-2.new.self c.expect-3.new.self (c.args.between ∷ []) c.expect-2.ensures.onward c.expect-3.ensures.onward c.in_ok-expect-2.ensures.text ∙ ap (λ t. c.args.between ∷ t) c.in_ok-expect-3.ensures.text in
    let lists = parted c.expect.new.self c.read_list.new.cursor c.expect-3.new.self c.read_list-2.new.cursor _ c.read_list.ensures.onward (search rules) c.read_list-2.ensures.onward middle in
    (_, _, led c.args.cursor.now c.expect.new.self c.read_list-2.new.cursor (codes "V") c.expect.ensures.onward (search rules) c.in_ok-expect.ensures.text ∙ ap (λ t. codes "V" ++ t) lists, c.in_ok-values.ensures.reads, c.in_ok-marks.ensures.reads)
