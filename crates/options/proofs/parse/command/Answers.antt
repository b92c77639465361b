use Rattle.std.proofs.Common.{inl, inr, refl, rules}
use Rattle.options.proofs.parse.command.Goals as goal

pub returns-in_ok-drawing-in-picture : goal.returns-in_ok-drawing-in-picture
returns-in_ok-drawing-in-picture c = inr (inr (inr (inl (search rules, (c.in_ok-drawing-in-picture.drawing, c.in_ok-drawing-in-picture.ensures, refl)))))
