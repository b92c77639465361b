use Rattle.std.proofs.Common.{◌++◌, ◌∙◌, Ok, ap, rules, subst, sym, arith}
use Rattle.functions.specs.Words.{FunctionFits, RowFits, arguments_text, frames_text}
use Rattle.functions.specs.declared.name.Name.TheVariants.{Rank, DenseRank, RowNumber, PercentRank, CumeDist}
use Rattle.functions.proofs.Functions.{alone_is, digits_end, first_is, lag_is, last_is, lead_is, nth_is}
use Rattle.functions.proofs.function.read_arguments.Goals as goal

pub returns-in_err-read_shift-in-Lag-clause-back : goal.returns-in_err-read_shift-in-Lag-clause-back
returns-in_err-read_shift-in-Lag-clause-back g c = λ f rest named fits e ends.
    let x = lag_is f (search (rules, named)) in
    let there = e ∙ ap (λ h. arguments_text g.K.Show.text h ++ rest) x.1 in
    let read = c.read_shift.ensures.back x.0 rest x.2 (subst (FunctionFits g.K.Text.fits) x.1 fits) there (digits_end rest ends) in
    absurd (search (rules, read.0))

pub returns-in_err-read_shift-in-Lead-clause-back : goal.returns-in_err-read_shift-in-Lead-clause-back
returns-in_err-read_shift-in-Lead-clause-back g c = λ f rest named fits e ends.
    let x = lead_is f (search (rules, named)) in
    let there = e ∙ ap (λ h. arguments_text g.K.Show.text h ++ rest) x.1 in
    let read = c.read_shift-in-Lead.ensures.back x.0 rest x.2 (subst (FunctionFits g.K.Text.fits) x.1 fits) there (digits_end rest ends) in
    absurd (search (rules, read.0))

pub returns-in_err-read_ignoring-in-First-clause-back : goal.returns-in_err-read_ignoring-in-First-clause-back
returns-in_err-read_ignoring-in-First-clause-back g c = λ f rest named fits e ends.
    let x = first_is f (search (rules, named)) in
    let there = e ∙ ap (λ h. arguments_text g.K.Show.text h ++ rest) x.1 in
    let read = c.read_ignoring.ensures.back x.0 rest x.2 (there ∙ ap (λ r. frames_text r x.0 ++ rest) x.2) (digits_end rest ends) in
    absurd (search (rules, read.0))

pub returns-in_err-read_ignoring-in-Last-clause-back : goal.returns-in_err-read_ignoring-in-Last-clause-back
returns-in_err-read_ignoring-in-Last-clause-back g c = λ f rest named fits e ends.
    let x = last_is f (search (rules, named)) in
    let there = e ∙ ap (λ h. arguments_text g.K.Show.text h ++ rest) x.1 in
    let read = c.read_ignoring-in-Last.ensures.back x.0 rest x.2 (there ∙ ap (λ r. frames_text r x.0 ++ rest) x.2) (digits_end rest ends) in
    absurd (search (rules, read.0))

pub returns-in_err-read_nth-in-Nth-clause-back : goal.returns-in_err-read_nth-in-Nth-clause-back
returns-in_err-read_nth-in-Nth-clause-back g c = λ f rest named fits e ends.
    let x = nth_is f (search (rules, named)) in
    let there = e ∙ ap (λ h. arguments_text g.K.Show.text h ++ rest) x.2 in
    let read = c.read_nth.ensures.back x.0 x.1 rest x.3 (subst RowFits x.3 (subst (FunctionFits g.K.Text.fits) x.2 fits)) there (digits_end rest ends) in
    absurd (search (rules, read.0))

pub returns-in_ok-read_shift-in-Lag-clause-back : goal.returns-in_ok-read_shift-in-Lag-clause-back
returns-in_ok-read_shift-in-Lag-clause-back g c = λ f rest named fits e ends.
    let x = lag_is f (search (rules, named)) in
    let there = e ∙ ap (λ h. arguments_text g.K.Show.text h ++ rest) x.1 in
    let read = c.read_shift.ensures.back x.0 rest x.2 (subst (FunctionFits g.K.Text.fits) x.1 fits) there (digits_end rest ends) in
    (search (rules, read.0, x.1), read.1)

pub returns-in_ok-read_shift-in-Lead-clause-back : goal.returns-in_ok-read_shift-in-Lead-clause-back
returns-in_ok-read_shift-in-Lead-clause-back g c = λ f rest named fits e ends.
    let x = lead_is f (search (rules, named)) in
    let there = e ∙ ap (λ h. arguments_text g.K.Show.text h ++ rest) x.1 in
    let read = c.read_shift-in-Lead.ensures.back x.0 rest x.2 (subst (FunctionFits g.K.Text.fits) x.1 fits) there (digits_end rest ends) in
    (search (rules, read.0, x.1), read.1)

pub returns-in_ok-read_ignoring-in-First-clause-back : goal.returns-in_ok-read_ignoring-in-First-clause-back
returns-in_ok-read_ignoring-in-First-clause-back g c = λ f rest named fits e ends.
    let x = first_is f (search (rules, named)) in
    let there = e ∙ ap (λ h. arguments_text g.K.Show.text h ++ rest) x.1 in
    let read = c.read_ignoring.ensures.back x.0 rest x.2 (there ∙ ap (λ r. frames_text r x.0 ++ rest) x.2) (digits_end rest ends) in
    (search (rules, read.0, x.1), read.1)

pub returns-in_ok-read_ignoring-in-Last-clause-back : goal.returns-in_ok-read_ignoring-in-Last-clause-back
returns-in_ok-read_ignoring-in-Last-clause-back g c = λ f rest named fits e ends.
    let x = last_is f (search (rules, named)) in
    let there = e ∙ ap (λ h. arguments_text g.K.Show.text h ++ rest) x.1 in
    let read = c.read_ignoring-in-Last.ensures.back x.0 rest x.2 (there ∙ ap (λ r. frames_text r x.0 ++ rest) x.2) (digits_end rest ends) in
    (search (rules, read.0, x.1), read.1)

pub returns-in_ok-read_nth-in-Nth-clause-back : goal.returns-in_ok-read_nth-in-Nth-clause-back
returns-in_ok-read_nth-in-Nth-clause-back g c = λ f rest named fits e ends.
    let x = nth_is f (search (rules, named)) in
    let there = e ∙ ap (λ h. arguments_text g.K.Show.text h ++ rest) x.2 in
    let read = c.read_nth.ensures.back x.0 x.1 rest x.3 (subst RowFits x.3 (subst (FunctionFits g.K.Text.fits) x.2 fits)) there (digits_end rest ends) in
    (search (rules, read.0, x.2), read.1)

pub returns-in-Rank-clause-back : goal.returns-in-Rank-clause-back
returns-in-Rank-clause-back g c = λ f rest named fits e ends.
    let x = alone_is g.K.Show.text Rank f (search (rules, named)) (omega arith) in
    (ap Ok (sym x.0), e ∙ ap (λ t. t ++ rest) x.1)

pub returns-in-DenseRank-clause-back : goal.returns-in-DenseRank-clause-back
returns-in-DenseRank-clause-back g c = λ f rest named fits e ends.
    let x = alone_is g.K.Show.text DenseRank f (search (rules, named)) (omega arith) in
    (ap Ok (sym x.0), e ∙ ap (λ t. t ++ rest) x.1)

pub returns-in-RowNumber-clause-back : goal.returns-in-RowNumber-clause-back
returns-in-RowNumber-clause-back g c = λ f rest named fits e ends.
    let x = alone_is g.K.Show.text RowNumber f (search (rules, named)) (omega arith) in
    (ap Ok (sym x.0), e ∙ ap (λ t. t ++ rest) x.1)

pub returns-in-PercentRank-clause-back : goal.returns-in-PercentRank-clause-back
returns-in-PercentRank-clause-back g c = λ f rest named fits e ends.
    let x = alone_is g.K.Show.text PercentRank f (search (rules, named)) (omega arith) in
    (ap Ok (sym x.0), e ∙ ap (λ t. t ++ rest) x.1)

pub returns-in-CumeDist-clause-back : goal.returns-in-CumeDist-clause-back
returns-in-CumeDist-clause-back g c = λ f rest named fits e ends.
    let x = alone_is g.K.Show.text CumeDist f (search (rules, named)) (omega arith) in
    (ap Ok (sym x.0), e ∙ ap (λ t. t ++ rest) x.1)
