use Rattle.std.proofs.Common.{◌≡◌, map, take, vec_items}
use Rattle.std.specs.List.{flat_map}
use Rattle.desk.specs.Answers.{part_answers}
use Rattle.desk.specs.Parts.{part}
use Rattle.desk.specs.Runs.{TookAll, none_told}
use Rattle.desk.proofs.given.Given.ask_parts.Given as goal

abbrev pub invariant-loop-turns : goal.invariant-loop-turns
invariant-loop-turns g l =
    let e = g.E.Evaluator in
    (vec_items l.answers ≡ flat_map (part_answers (e.meaning l.evaluator) e.WANTS_FRAMES l.self.frame l.self.cells.now) (map (λ p. p.now) (take l.turns-index l.parts)))
    × TookAll e.meaning l.evaluator (part e.WANTS_FRAMES l.self.frame l.self.cells.now) l.step none_told (map (λ p. p.now) (take l.turns-index l.parts)) l.told
