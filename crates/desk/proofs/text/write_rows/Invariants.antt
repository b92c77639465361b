use Rattle.std.proofs.Common.{take, vec_items}
use Rattle.desk.specs.Texts.{Wrote}
use Rattle.desk.proofs.text.write_rows.Given as goal

abbrev pub invariant-loop-row : goal.invariant-loop-row
invariant-loop-row g l = Wrote g.A.Answer.writes l.turns l.answers (take l.row l.records) (vec_items l.fn.text) (vec_items l.text)
