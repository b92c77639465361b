use Rattle.std.proofs.Common.{◌≡◌, ℕ, ◌<◌, List, [], ◌++◌, length, get_or, subst, sym, ap, ◌∙◌, arith}
use Rattle.std.proofs.lemmas.List.{get_or_default}
use Rattle.std.specs.Borrow.{Bor}
use Rattle.turns.specs.declared.layout.Turn.{Turn}
use Rattle.desk.specs.Texts.{AnswerOf, Line}
use Rattle.desk.proofs.Writing.{one_line}
use Rattle.desk.proofs.text.write_rows.Goals as goal

pub loop-row-preserved : goal.loop-row-preserved
loop-row-preserved g c =
    let turns = c.args.turns.now in
    let records = c.args.records.now in
    let answers = c.args.answers.now in
    let places : List ℕ = c.in_ok-places.places.items in
    let row = c.loop-row.row in
    let found = c.in_ok-places.ensures in
    let (content, text, writes) = c.in_ok-write.ensures in
    let (line, more, is) = c.in_ok-write_line.ensures in
    let answer = c.index-answers-index.result in
    let below : row < length places = omega (arith, found.as_many, c.requires.rows, c.loop-row-test.true) in
    let at : c.index.result.now ≡ get_or places row 0 = c.index.ensures ∙ get_or_default places row c.index.result.now 0 below in
    let within : c.index.result.now < length turns = omega (arith, at, found.within row below) in
    let of : AnswerOf turns answers row answer = record {
      place = c.index.result.now;
      within = within;
      turn = subst (λ (k : ℕ). (d : Turn) → (get_or turns k d).row ≡ row) (sym at) (λ d. found.each row d below);
      is = λ d. get_or_default answers c.index.result.now d answer (omega (arith, within, c.requires.answers)) ∙ sym c.index-answers-index.is;
    } in
    let said : c.as_slice.result.now ≡ content = c.as_slice.ensures.value ∙ text ∙ ap (λ x. x ++ content) c.clear.ensures.items in
    let none : Bor (List ℕ) = record { ref_ptr = (0, 0); now = [] } in
    one_line g.A.Answer.writes turns answers records c.args.text.now.items c.loop-row.text.items c.write_line.new.text.items line row (get_or records row none) answer c.loop-row.invariant c.loop-row-test.true (λ d. get_or_default records row d none c.loop-row-test.true) of (content, writes, subst (λ t. Line (get_or records row none).now t line) said is) more
