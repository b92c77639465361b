use Rattle.std.proofs.Common.{◌≡◌, map, vec_items, rules}
use Rattle.std.proofs.lemmas.Result.{IfOk-weaker}
use Rattle.table.specs.Contents.{bytes_of}
use Rattle.desk.specs.Columns.{IsSheet, Sheet}
use Rattle.desk.proofs.answer.answer.Goals as goal

pub answer-requires : goal.answer-requires
answer-requires c =
    let names : map (λ n. n.now) c.as_slice-2.result.now ≡ map bytes_of c.in_ok-header.header.items = search rules in
    (c.args.text.now, record { table = c.in-Ok.ensures; header = c.in_ok-header.header.items; read = c.in_ok-header.ensures; names = names })

pub returns-clause-answers : goal.returns-clause-answers
returns-clause-answers c =
    let sheet : Sheet = record { width = c.in-Ok.table.width; records = vec_items c.in-Ok.table.records; fields = vec_items c.in-Ok.table.fields; names = c.as_slice-2.result.now } in
    let names : map (λ n. n.now) c.as_slice-2.result.now ≡ map bytes_of c.in_ok-header.header.items = search rules in
    let is : IsSheet c.args.text.now sheet = record { table = c.in-Ok.ensures; header = c.in_ok-header.header.items; read = c.in_ok-header.ensures; names = names } in
    IfOk-weaker c.answer.result _ _ (λ a e. (sheet, is, e)) c.answer.ensures.answers
