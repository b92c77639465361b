use Rattle.std.proofs.Common.{◌≡◌, ℕ, ◌+◌, List, ◌++◌, length, string_bytes, vec_items}
use Rattle.std.specs.Iterator.Adapters.{enumerate_count, enumerate_source, zip_first, zip_second}
use Rattle.std.specs.Slice.Iter.{iter_rest}
use Rattle.drive.specs.Runs.{TellsAt, TellsSteps}
use Rattle.drive.proofs.runs.answer_run.Given as goal

-- what is numbered and what is left are all the operations, and the text, with any that tells of those that are left, tells of all
abbrev pub invariant-loop-i : goal.invariant-loop-i
invariant-loop-i g l =
    let tells = TellsSteps (TellsAt g.E.Answer.Show.text g.E.Evaluator.meaning l.evaluator g.E.Evaluator.WANTS_FRAMES l.from_zero (vec_items l.calls)) in
    let source = enumerate_source l.i-iterator in
    let entries = iter_rest (zip_second (enumerate_source l.initial.i-iterator)) in
    (goal.iterator-loop-i g).can_next l.i-iterator ×
    (goal.iterator-loop-i g).is_finite l.i-iterator ×
    (enumerate_count l.i-iterator + length (iter_rest (zip_first source)) ≡ length l.steps)
    × (length (iter_rest (zip_first source)) ≡ length (iter_rest (zip_second source)))
    × ((rest : List ℕ) → tells (enumerate_count l.i-iterator) (iter_rest (zip_first source)) (iter_rest (zip_second source)) rest → tells 0 l.steps entries (string_bytes l.text ++ rest))
