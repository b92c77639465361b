use Rattle.std.proofs.Common.{◌≡◌, ◌++◌, vec_items, replicate}
use Rattle.desk.proofs.parts.push_frames.Given as goal

abbrev pub invariant-loop : goal.invariant-loop
invariant-loop l = vec_items l.frames ≡ vec_items l.initial.frames ++ replicate l.counter (0, l.fn.end)
