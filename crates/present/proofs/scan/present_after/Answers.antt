use Rattle.std.proofs.Common.{◌≡◌, ◌+◌, true, false, is_some, rules, tests, arith}
use Rattle.std.proofs.lemmas.Iterator.{first_from_Range}
use Rattle.column.specs.Cells.{view}
use Rattle.present.proofs.First.{next_found}
use Rattle.present.proofs.scan.present_after.Goals as goal

pub returns : goal.returns
returns g c =
    let f = view c.args.window.now in
    let found = first_from_Range _ _ _ c.find.result (λ k. is_some (f k) ≡ true) (λ k. is_some (f k) ≡ false) c.find.ensures.ran (λ x q k. search (rules, tests)) (λ x q k. search (rules, tests)) in
    next_found f c.saturating_add.result (c.args.row + 1) c.args.end c.find.result (λ j a b. omega (arith, c.saturating_add.ensures)) (λ j a b. omega (arith, c.saturating_add.ensures)) found
