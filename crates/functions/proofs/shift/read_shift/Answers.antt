use Rattle.std.proofs.Common.{◌++◌, ◌∙◌, codes, rules, arith}
use Rattle.std.proofs.lemmas.List.{append_assoc}
use Rattle.lines.specs.Texts.{cell_text, mark_text}
use Rattle.functions.specs.Words.{argument_text}
use Rattle.functions.proofs.shift.read_shift.Goals as goal

pub returns-in_err-default-clause-back : goal.returns-in_err-default-clause-back
returns-in_err-default-clause-back g c = λ s rest kind fits e ends.
    let default = codes ":" ++ cell_text g.K.Show.text s.default in
    let ignoring = codes ":" ++ (mark_text s.ignore_nulls ++ default) in
    let reversed = codes ":" ++ (mark_text s.reversed ++ ignoring) in
    let argument = c.read_argument.ensures.back s.offset _ fits.0 ((c.expect.ensures.back _ e).1 ∙ append_assoc (argument_text s.offset) reversed rest) in
    let first = c.read.ensures.back s.reversed tt _ ((c.expect-2.ensures.back _ argument.1).1 ∙ append_assoc (mark_text s.reversed) ignoring rest) (λ h. omega (arith, h)) in
    let second = c.read-2.ensures.back s.ignore_nulls tt _ ((c.expect-3.ensures.back _ first.1).1 ∙ append_assoc (mark_text s.ignore_nulls) default rest) (λ h. omega (arith, h)) in
    let third = c.read-3.ensures.back s.default fits.1 rest (c.expect-4.ensures.back _ second.1).1 ends in
    absurd (search (rules, third.0))

pub returns-clause-back : goal.returns-clause-back
returns-clause-back g c = λ s rest kind fits e ends.
    let default = codes ":" ++ cell_text g.K.Show.text s.default in
    let ignoring = codes ":" ++ (mark_text s.ignore_nulls ++ default) in
    let reversed = codes ":" ++ (mark_text s.reversed ++ ignoring) in
    let argument = c.read_argument.ensures.back s.offset _ fits.0 ((c.expect.ensures.back _ e).1 ∙ append_assoc (argument_text s.offset) reversed rest) in
    let first = c.read.ensures.back s.reversed tt _ ((c.expect-2.ensures.back _ argument.1).1 ∙ append_assoc (mark_text s.reversed) ignoring rest) (λ h. omega (arith, h)) in
    let second = c.read-2.ensures.back s.ignore_nulls tt _ ((c.expect-3.ensures.back _ first.1).1 ∙ append_assoc (mark_text s.ignore_nulls) default rest) (λ h. omega (arith, h)) in
    let third = c.read-3.ensures.back s.default fits.1 rest (c.expect-4.ensures.back _ second.1).1 ends in
    (search (rules, kind, argument.0, first.0, second.0, third.0), third.1)
