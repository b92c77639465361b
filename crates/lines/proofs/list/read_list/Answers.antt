use Rattle.std.proofs.Common.{◌≡◌, ◌∷◌, ◌++◌, [], codes, sym, refl, subst, ap, ◌∙◌, rules, vec_items}
use Rattle.std.proofs.lemmas.List.{append_assoc}
use Rattle.lines.specs.Cursors.{passed}
use Rattle.lines.specs.Reads.{ReadsItems}
use Rattle.lines.specs.Texts.{joined}
use Rattle.lines.proofs.Lists.{comma_read, end_read, item_added, item_read}
use Rattle.lines.proofs.Passed.{closed, further, led, still, stood}
use Rattle.lines.proofs.list.read_list.Goals as goal

pub returns-in_err-read-clause-back : goal.returns-in_err-read-clause-back
returns-in_err-read-clause-back g c [] rest fits e = absurd (search (rules, c.take.ensures.back rest (c.expect.ensures.back _ e).1))
returns-in_err-read-clause-back g c (y ∷ ys) rest fits e =
    let text = g.T.Show.text in
    let begun = still c.expect.new.self c.take.new.self _ c.if-take.false c.take.ensures.step c.take.ensures.onward ∙ (c.expect.ensures.back _ e).1 ∙ append_assoc (joined text (y ∷ ys)) (codes "]") rest in
    let left = c.loop-items.invariant.1 y ys rest fits begun in
    let read = item_read g.T.Text.fits text (y ∷ ys) (vec_items c.loop-items.items) c.loop-items.cursor c.read.new.cursor c.read.result rest c.read.ensures.back left in
    absurd (search (rules, read.0))

pub loop-items-preserved : goal.loop-items-preserved
loop-items-preserved g c = (
  search rules,
  λ y ys rest fits e.
      let left = c.loop-items.invariant.1 y ys rest fits e in
      let read = item_read g.T.Text.fits g.T.Show.text (y ∷ ys) (vec_items c.loop-items.items) c.loop-items.cursor c.read.new.cursor c.read.result rest c.read.ensures.back left in
      comma_read g.T.Text.fits g.T.Show.text (y ∷ ys) (vec_items c.loop-items.items) (vec_items c.push.new.self) left.0 left.1 c.read.new.cursor c.take-in-loop-items.new.self c.take-in-loop-items.result rest (search rules) c.take-in-loop-items.ensures.found c.take-in-loop-items.ensures.back (search (rules, read.0)) left.2 left.3 read.1,
  λ bs y ys h.
      let comma : passed c.read.new.cursor c.take-in-loop-items.new.self ≡ codes "," = c.take-in-loop-items.ensures.text (search rules) in
      let text = closed c.take.new.self c.loop-items.cursor c.read.new.cursor c.take-in-loop-items.new.self (codes ",") c.loop-items.invariant.0 c.read.ensures.onward c.take-in-loop-items.ensures.onward comma in
      item_added g.T.Text.reads (passed c.take.new.self c.loop-items.cursor) (passed c.loop-items.cursor c.read.new.cursor) bs (passed c.take.new.self c.take-in-loop-items.new.self) (vec_items c.loop-items.items) (vec_items c.push.new.self) c.in_ok-read.field-0 y ys text (search rules) (c.loop-items.invariant.2 (passed c.loop-items.cursor c.read.new.cursor ++ (codes "," ++ bs)) c.in_ok-read.field-0 (y ∷ ys) (passed c.loop-items.cursor c.read.new.cursor, bs, refl, c.in_ok-read.ensures.reads, h)),
)

pub returns-in_err-expect-2-clause-back : goal.returns-in_err-expect-2-clause-back
returns-in_err-expect-2-clause-back g c [] rest fits e = absurd (search (rules, c.take.ensures.back rest (c.expect.ensures.back _ e).1))
returns-in_err-expect-2-clause-back g c (y ∷ ys) rest fits e =
    let text = g.T.Show.text in
    let begun = still c.expect.new.self c.take.new.self _ c.if-take.false c.take.ensures.step c.take.ensures.onward ∙ (c.expect.ensures.back _ e).1 ∙ append_assoc (joined text (y ∷ ys)) (codes "]") rest in
    let left = c.loop-items.invariant.1 y ys rest fits begun in
    let read = item_read g.T.Text.fits text (y ∷ ys) (vec_items c.loop-items.items) c.loop-items.cursor c.read.new.cursor c.read.result rest c.read.ensures.back left in
    let done = end_read g.T.Text.fits text (y ∷ ys) (vec_items c.loop-items.items) left.0 left.1 c.read.new.cursor c.take-in-loop-items.new.self c.take-in-loop-items.result rest (search rules) c.take-in-loop-items.ensures.back left.2 read.1 in
    let closed = c.expect-2.ensures.back rest (still c.read.new.cursor c.take-in-loop-items.new.self c.take-in-loop-items.result (search rules) c.take-in-loop-items.ensures.step c.take-in-loop-items.ensures.onward ∙ done.1) in
    absurd (search (rules, closed.0))

pub returns-clause-back : goal.returns-clause-back
returns-clause-back g c [] rest fits e = absurd (search (rules, c.take.ensures.back rest (c.expect.ensures.back _ e).1))
returns-clause-back g c (y ∷ ys) rest fits e =
    let text = g.T.Show.text in
    let begun = still c.expect.new.self c.take.new.self _ c.if-take.false c.take.ensures.step c.take.ensures.onward ∙ (c.expect.ensures.back _ e).1 ∙ append_assoc (joined text (y ∷ ys)) (codes "]") rest in
    let left = c.loop-items.invariant.1 y ys rest fits begun in
    let read = item_read g.T.Text.fits text (y ∷ ys) (vec_items c.loop-items.items) c.loop-items.cursor c.read.new.cursor c.read.result rest c.read.ensures.back left in
    let done = end_read g.T.Text.fits text (y ∷ ys) (vec_items c.loop-items.items) left.0 left.1 c.read.new.cursor c.take-in-loop-items.new.self c.take-in-loop-items.result rest (search rules) c.take-in-loop-items.ensures.back left.2 read.1 in
    let closed = c.expect-2.ensures.back rest (still c.read.new.cursor c.take-in-loop-items.new.self c.take-in-loop-items.result (search rules) c.take-in-loop-items.ensures.step c.take-in-loop-items.ensures.onward ∙ done.1) in
    let pushed : vec_items c.push.new.self ≡ vec_items c.loop-items.items ++ (left.0 ∷ []) = search (rules, read.0) in
    (pushed ∙ sym done.0, closed.1)

pub returns-clause-reads : goal.returns-clause-reads
returns-clause-reads g c =
    let last = c.take-in-loop-items.new.self in
    let end = c.expect-2.new.self in
    let bracket : passed c.read.new.cursor end ≡ codes "]" = stood c.read.new.cursor last end c.take-in-loop-items.result (search rules) c.take-in-loop-items.ensures.step c.take-in-loop-items.ensures.onward ∙ c.in_ok-expect-2.ensures.text in
    let onward = further c.read.new.cursor last end c.take-in-loop-items.ensures.onward c.expect-2.ensures.onward in
    let items = closed c.take.new.self c.loop-items.cursor c.read.new.cursor end (codes "]") c.loop-items.invariant.0 c.read.ensures.onward onward bracket in
    let begun = stood c.expect.new.self c.take.new.self end _ c.if-take.false c.take.ensures.step c.take.ensures.onward ∙ items in
    let reads = c.loop-items.invariant.2 _ c.in_ok-read.field-0 [] c.in_ok-read.ensures.reads in
    let pushed : vec_items c.push.new.self ≡ vec_items c.loop-items.items ++ (c.in_ok-read.field-0 ∷ []) = search rules in
    (_, led c.args.cursor.now c.expect.new.self end (codes "[") c.expect.ensures.onward (search rules) c.in_ok-expect.ensures.text ∙ ap (λ t. codes "[" ++ t) begun, subst (ReadsItems g.T.Text.reads _) (sym pushed) reads)
