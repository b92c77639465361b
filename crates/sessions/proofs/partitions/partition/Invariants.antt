use Rattle.std.proofs.Common.{vec_items}
use Rattle.sessions.specs.Names.{number_in}
use Rattle.sessions.specs.Sessions.{lists}
use Rattle.sessions.proofs.Grouping.{Grouping}
use Rattle.sessions.proofs.partitions.partition.Given as goal

abbrev pub invariant-loop-i : goal.invariant-loop-i
invariant-loop-i l = Grouping l.records (number_in l.numbers) l.i (lists l.cells) (vec_items l.places)
