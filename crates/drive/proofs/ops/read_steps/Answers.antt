use Rattle.std.proofs.Common.{◌≡◌, ◌≤◌, [], ◌∷◌, ◌++◌, codes, length, vec_items, ap, sym, subst, ◌∙◌, rules, arith}
use Rattle.std.proofs.lemmas.List.{append_assoc, append-nil, length-drop, nil_from_length}
use Rattle.lines.specs.Cursors.{ahead}
use Rattle.drive.specs.Reads.{ReadsSteps}
use Rattle.drive.proofs.Parts.{ahead_split}
use Rattle.drive.proofs.ops.read_steps.Goals as goal

pub loop-heap-preserved : goal.loop-heap-preserved
loop-heap-preserved g c = λ more h.
    let here = c.loop-heap.cursor in
    let blank = c.expect.new.self in
    let step = c.in_ok-read_step.field-0 in
    let pushed : vec_items c.push.new.self ≡ vec_items c.loop-heap.steps ++ (step ∷ []) = search rules in
    let list : vec_items c.push.new.self ++ more ≡ vec_items c.loop-heap.steps ++ (step ∷ more) = ap (λ l. l ++ more) pushed ∙ append_assoc (vec_items c.loop-heap.steps) (step ∷ []) more in
    let first = ahead_split here blank c.expect.ensures.onward ∙ ap (λ t. t ++ ahead blank) c.in_ok-expect.ensures.text in
    let second = ahead_split blank c.read_step.new.cursor c.read_step.ensures.onward in
    subst (ReadsSteps g.K.Text.reads (ahead c.args.cursor.now)) (sym list) (c.loop-heap.invariant (step ∷ more) (_, _, first ∙ ap (λ t. codes " " ++ t) second, c.in_ok-read_step.ensures.reads, h))

pub returns : goal.returns
returns g c =
    let here = c.loop-heap.cursor in
    let done : length here.text.now ≤ here.at = search rules in
    let empty : ahead here ≡ [] = nil_from_length (ahead here) (length-drop here.at here.text.now ∙ omega (arith, done)) in
    record { reads = subst (ReadsSteps g.K.Text.reads (ahead c.args.cursor.now)) (append-nil (vec_items c.loop-heap.steps)) (c.loop-heap.invariant [] empty) }
