use Rattle.std.proofs.Common.{◌++◌, ◌∙◌, rules, subst}
use Rattle.std.proofs.lemmas.List.{append_assoc}
use Rattle.functions.specs.Names.{NamesFunction, name_text}
use Rattle.functions.specs.Words.{arguments_text, name_of}
use Rattle.functions.proofs.Functions.{name_ends, name_word, read_name}
use Rattle.functions.proofs.function.read_function.Goals as goal

pub returns-in_err-name-clause-back : goal.returns-in_err-name-clause-back
returns-in_err-name-clause-back g c = λ f rest fits e ends.
    let name = name_of f in
    let told = c.word.ensures.back (name_text name) (arguments_text g.K.Show.text f ++ rest) (name_word name) (e ∙ append_assoc (name_text name) (arguments_text g.K.Show.text f) rest) (name_ends g.K.Show.text f rest ends) in
    let named = read_name name c.parse.result (subst (λ t. NamesFunction t c.parse.result) told.0 c.parse.ensures.value) in
    absurd (search (rules, named))

pub returns-clause-back : goal.returns-clause-back
returns-clause-back g c = λ f rest fits e ends.
    let name = name_of f in
    let told = c.word.ensures.back (name_text name) (arguments_text g.K.Show.text f ++ rest) (name_word name) (e ∙ append_assoc (name_text name) (arguments_text g.K.Show.text f) rest) (name_ends g.K.Show.text f rest ends) in
    let named = read_name name c.parse.result (subst (λ t. NamesFunction t c.parse.result) told.0 c.parse.ensures.value) in
    c.read_arguments.ensures.back f rest (search (rules, named)) fits told.1 ends
