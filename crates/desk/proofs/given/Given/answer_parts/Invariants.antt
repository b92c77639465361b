use Rattle.std.proofs.Common.{◌≡◌, map, take, vec_items}
use Rattle.std.specs.List.{flat_map}
use Rattle.desk.specs.Answers.{part_answers}
use Rattle.desk.proofs.given.Given.answer_parts.Given as goal

abbrev pub invariant-loop-turns : goal.invariant-loop-turns
invariant-loop-turns g l = vec_items l.answers ≡ flat_map (part_answers (g.E.Evaluator.meaning l.evaluator) g.E.Evaluator.WANTS_FRAMES l.self.frame l.self.cells.now) (map (λ p. p.now) (take l.turns-index l.parts))
