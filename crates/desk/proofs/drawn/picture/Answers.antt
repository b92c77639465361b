use Rattle.std.proofs.Common.{◌≡◌, map, vec_items, rules, string_bytes, subst}
use Rattle.table.specs.Contents.{bytes_of}
use Rattle.desk.specs.Columns.{IsSheet, Sheet}
use Rattle.desk.specs.Pictures.{DrawsPart, LastColumn}
use Rattle.desk.proofs.drawn.picture.Goals as goal

pub returns : goal.returns
returns c =
    let sheet : Sheet = record { width = c.in-Ok.table.width; records = vec_items c.in-Ok.table.records; fields = vec_items c.in-Ok.table.fields; names = c.as_slice-3.result.now } in
    let names : map (λ n. n.now) c.as_slice-3.result.now ≡ map bytes_of c.in_ok-header.header.items = search rules in
    let is : IsSheet c.args.text.now sheet = record { table = c.in-Ok.ensures; header = c.in_ok-header.header.items; read = c.in_ok-header.ensures; names = names } in
    let (partitions, in_turn) = c.in_ok-layout.ensures.turns in
    let last : LastColumn (vec_items c.in_ok-answered.answered.text) c.in_ok-answers.answers.items = subst (λ t. LastColumn t c.in_ok-answers.answers.items) c.as_slice.ensures.value c.in_ok-answers.ensures in
    let drawn : DrawsPart sheet c.args.drawing.now c.in_ok-layout.layout.turns.items c.in_ok-answers.answers.items (string_bytes c.in_ok-picture.picture) =
    subst (λ t. DrawsPart sheet c.args.drawing.now t c.in_ok-answers.answers.items (string_bytes c.in_ok-picture.picture)) c.as_slice-4.ensures.value
    (subst (λ a. DrawsPart sheet c.args.drawing.now c.as_slice-4.result.now a (string_bytes c.in_ok-picture.picture)) c.as_slice-5.ensures.value c.in_ok-picture.ensures) in
    record { answered = c.in_ok-answered.answered; table = c.in_ok-answered.ensures.answers; answers = c.in_ok-answers.answers.items; last = last; s = sheet; sheet = is; partitions = partitions; orders = c.in_ok-layout.layout.orders.items; turns = c.in_ok-layout.layout.turns.items; in_turn = in_turn; drawn = drawn }
