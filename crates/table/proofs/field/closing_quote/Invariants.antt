use Rattle.std.proofs.Common.{take}
use Rattle.table.proofs.Quotes.{Seen}
use Rattle.table.proofs.field.closing_quote.Given as goal

abbrev pub invariant-loop-i : goal.invariant-loop-i
invariant-loop-i l = Seen l.pending (take l.i l.body)
