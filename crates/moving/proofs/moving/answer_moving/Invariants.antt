use Rattle.std.proofs.Common.{◌≡◌, ◌+◌, ◌-◌, ◌≤◌, map, length, vec_items}
use Rattle.std.specs.List.{range_with_len}
use Rattle.partition.specs.Table.{input}
use Rattle.evaluator.specs.Meaning.{partition}
use Rattle.replay.specs.Act.{evaluator_of, progress_of, total_now}
use Rattle.moving.proofs.Under.{Under, Shows-so-far}
use Rattle.moving.proofs.moving.answer_moving.Given as goal

abbrev pub invariant-rows : goal.invariant-rows
invariant-rows g l =
    let p = partition g.E.Evaluator.WANTS_FRAMES (input l.rows) in
    let run = l.reach.run in
    let i = length (vec_items l.answers) in
    Under g.E.Evaluator.meaning l.evaluator (evaluator_of run) g.E.Evaluator.WANTS_FRAMES (progress_of run) (total_now run) p l.settles i
    × (vec_items l.answers ≡ map ((g.E.Evaluator.meaning l.evaluator).answer p) (range_with_len 0 i))
    × (i ≤ l.n) × (l.reach.end ≤ l.n)
    × Shows-so-far g.E.Evaluator.meaning l.evaluator p l.settles l.step i (vec_items l.shown) l.too_early l.reach.end

abbrev pub decreases-rows : goal.decreases-rows
decreases-rows g l = l.n - length (vec_items l.answers) + (l.n - l.reach.end)
