use Rattle.std.proofs.Common.{◌≡◌, length, vec_items}
use Rattle.desk.proofs.Placing.{Placed}
use Rattle.desk.proofs.text.places.Given as goal

abbrev pub invariant-loop-place : goal.invariant-loop-place
invariant-loop-place l = record { all : length (vec_items l.places) ≡ length l.turns; placed : Placed l.turns (vec_items l.places) l.place }
