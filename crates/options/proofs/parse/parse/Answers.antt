use Rattle.std.proofs.Common.{◌≡◌, ◌∷◌, rules, subst, sym}
use Rattle.std.proofs.lemmas.Result.{err_from_is_err_and}
use Rattle.options.specs.Commands.{IsHelp, NoCommand}
use Rattle.options.proofs.parse.parse.Goals as goal

pub returns-in_err-command : goal.returns-in_err-command
returns-in_err-command c =
    let p = err_from_is_err_and c.from_residual-in_err-command.result c.from_residual-in_err-command.ensures.1 in
    let words : c.args.words.now ≡ c.in_ok-name.name.now ∷ c.in_ok-name.others.now = search (rules, c.split_first.ensures.cases) in
    let no_help : ¬ (IsHelp c.args.words.now) = search rules in
    rw (p.1, p.2) (subst (λ ws. NoCommand ws c.in_err-command.field-0.0) (sym words) (subst (λ ws. ¬ (IsHelp ws)) words no_help, c.in_err-command.ensures))
