use Rattle.std.proofs.Common.{◌≡◌, ◌+◌, length, rules, subst}
use Rattle.lines.specs.Kinds.{NamesKind, kind_text}
use Rattle.lines.proofs.Fields.{kind_begins, kind_end, read_name}
use Rattle.lines.proofs.Numbers.{left_behind, number_text}
use Rattle.lines.proofs.kinds.read_kind.Goals as goal

pub returns-clause-back : goal.returns-clause-back
returns-clause-back c = λ k rest e ends.
    let xs = c.args.cursor.now.text.now in
    let a = c.args.cursor.now.at in
    let stop : c.field.new.self.at ≡ a + length (kind_text k) = kind_end k xs rest a c.field.new.self.at e ends (search rules) (search rules) c.field.ensures.filled c.field.ensures.stops in
    let name : c.field.result.now ≡ kind_text k = search (rules, c.field.ensures.text (kind_begins k xs rest a e), stop, number_text xs (kind_text k) rest a e) in
    let read = read_name k c.parse.result (subst (λ t. NamesKind t c.parse.result) name c.parse.ensures.value) in
    (search (rules, read), search (rules, stop, left_behind xs (kind_text k) rest a e))
