use Rattle.std.proofs.Common.{◌≡◌, take, vec_items}
use Rattle.desk.specs.Parts.{peer_frames}
use Rattle.desk.proofs.parts.peer_frames.Given as goal

abbrev pub invariant-loop-start : goal.invariant-loop-start
invariant-loop-start l = vec_items l.frames ≡ peer_frames (take l.start-index l.groups)
