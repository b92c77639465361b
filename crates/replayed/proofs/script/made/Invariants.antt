use Rattle.std.proofs.Common.{◌≡◌, List, ◌++◌, length, string_bytes}
use Rattle.std.specs.Iterator.Adapters.{zip_first, zip_second}
use Rattle.std.specs.Slice.Iter.{iter_rest}
use Rattle.replayed.specs.Replays.{TellsSteps}
use Rattle.replayed.proofs.script.made.Given as goal

-- as many operations are left as outcomes, and the text, with any that tells of those that are left, tells of all
abbrev pub invariant-loop-step : goal.invariant-loop-step
invariant-loop-step g l =
    let tells = TellsSteps g.E.Answer.Show.text l.ending.0 in
    let here = l.step-iterator in
    let start = l.initial.step-iterator in
    (goal.iterator-loop-step g).can_next here ×
    (goal.iterator-loop-step g).is_finite here ×
    (length (iter_rest (zip_first here)) ≡ length (iter_rest (zip_second here)))
    × ((rest : List _) → tells (iter_rest (zip_first here)) (iter_rest (zip_second here)) rest → tells (iter_rest (zip_first start)) (iter_rest (zip_second start)) (string_bytes l.text ++ rest))
