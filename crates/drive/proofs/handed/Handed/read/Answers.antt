use Rattle.std.proofs.Common.{◌≡◌, ◌++◌, ◌∙◌, codes, ap, rules, vec_items}
use Rattle.std.proofs.lemmas.List.{append_assoc}
use Rattle.lines.specs.Cursors.{ahead}
use Rattle.lines.specs.Texts.{column_text}
use Rattle.drive.proofs.ReadsBack.{spans_back}
use Rattle.drive.proofs.handed.Handed.read.Goals as goal

pub returns-in_err-frames-clause-back : goal.returns-in_err-frames-clause-back
returns-in_err-frames-clause-back g c = λ x text rest h is.
    let tail = codes " " ++ h.groups in
    let begun = is ∙ ap (λ t. t ++ rest) h.is ∙ append_assoc (column_text g.K.Show.text 32 x.values x.marks) (codes " " ++ (h.frames ++ tail)) rest in
    let column = c.read_column.ensures.back x.values x.marks (codes " " ++ ((h.frames ++ tail) ++ rest)) h.fits begun in
    let read : ahead c.read_column.new.cursor ≡ codes " " ++ ((h.frames ++ tail) ++ rest) = search (rules, column) in
    let first = (c.expect.ensures.back _ read).1 ∙ append_assoc h.frames tail rest in
    let frames = spans_back _ (λ v. vec_items v) 70 x.frames h.frames (tail ++ rest) _ _ c.read_spans.result h.frames_text first c.read_spans.ensures.back c.read_spans.ensures.absent in
    search (rules, frames)

pub returns-in_err-expect-2-clause-back : goal.returns-in_err-expect-2-clause-back
returns-in_err-expect-2-clause-back g c = λ x text rest h is.
    let tail = codes " " ++ h.groups in
    let begun = is ∙ ap (λ t. t ++ rest) h.is ∙ append_assoc (column_text g.K.Show.text 32 x.values x.marks) (codes " " ++ (h.frames ++ tail)) rest in
    let column = c.read_column.ensures.back x.values x.marks (codes " " ++ ((h.frames ++ tail) ++ rest)) h.fits begun in
    let read : ahead c.read_column.new.cursor ≡ codes " " ++ ((h.frames ++ tail) ++ rest) = search (rules, column) in
    let first = (c.expect.ensures.back _ read).1 ∙ append_assoc h.frames tail rest in
    let frames = spans_back _ (λ v. vec_items v) 70 x.frames h.frames (tail ++ rest) _ _ c.read_spans.result h.frames_text first c.read_spans.ensures.back c.read_spans.ensures.absent in
    let behind : ahead c.read_spans.new.cursor ≡ codes " " ++ (h.groups ++ rest) = search (rules, frames) in
    absurd (search (rules, (c.expect-2.ensures.back _ behind).0))

pub returns-in_err-groups-clause-back : goal.returns-in_err-groups-clause-back
returns-in_err-groups-clause-back g c = λ x text rest h is.
    let tail = codes " " ++ h.groups in
    let begun = is ∙ ap (λ t. t ++ rest) h.is ∙ append_assoc (column_text g.K.Show.text 32 x.values x.marks) (codes " " ++ (h.frames ++ tail)) rest in
    let column = c.read_column.ensures.back x.values x.marks (codes " " ++ ((h.frames ++ tail) ++ rest)) h.fits begun in
    let read : ahead c.read_column.new.cursor ≡ codes " " ++ ((h.frames ++ tail) ++ rest) = search (rules, column) in
    let first = (c.expect.ensures.back _ read).1 ∙ append_assoc h.frames tail rest in
    let frames = spans_back _ (λ v. vec_items v) 70 x.frames h.frames (tail ++ rest) _ _ c.read_spans.result h.frames_text first c.read_spans.ensures.back c.read_spans.ensures.absent in
    let behind : ahead c.read_spans.new.cursor ≡ codes " " ++ (h.groups ++ rest) = search (rules, frames) in
    let second = (c.expect-2.ensures.back _ behind).1 in
    let groups = spans_back _ (λ v. vec_items v) 71 x.groups h.groups rest _ _ c.read_spans-2.result h.groups_text second c.read_spans-2.ensures.back c.read_spans-2.ensures.absent in
    search (rules, groups)

pub returns-clause-back : goal.returns-clause-back
returns-clause-back g c = λ x text rest h is.
    let tail = codes " " ++ h.groups in
    let begun = is ∙ ap (λ t. t ++ rest) h.is ∙ append_assoc (column_text g.K.Show.text 32 x.values x.marks) (codes " " ++ (h.frames ++ tail)) rest in
    let column = c.read_column.ensures.back x.values x.marks (codes " " ++ ((h.frames ++ tail) ++ rest)) h.fits begun in
    let read : ahead c.read_column.new.cursor ≡ codes " " ++ ((h.frames ++ tail) ++ rest) = search (rules, column) in
    let first = (c.expect.ensures.back _ read).1 ∙ append_assoc h.frames tail rest in
    let frames = spans_back _ (λ v. vec_items v) 70 x.frames h.frames (tail ++ rest) _ _ c.read_spans.result h.frames_text first c.read_spans.ensures.back c.read_spans.ensures.absent in
    let behind : ahead c.read_spans.new.cursor ≡ codes " " ++ (h.groups ++ rest) = search (rules, frames) in
    let second = (c.expect-2.ensures.back _ behind).1 in
    let groups = spans_back _ (λ v. vec_items v) 71 x.groups h.groups rest _ _ c.read_spans-2.result h.groups_text second c.read_spans-2.ensures.back c.read_spans-2.ensures.absent in
    (search (rules, column, frames, groups), search (rules, groups))
