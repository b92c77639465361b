use Rattle.std.proofs.Common.{rules}
use Rattle.std.proofs.lemmas.Result.{IfOk-weaker}
use Rattle.turns.proofs.Placed.{numbered_rows, rows_within}
use Rattle.turns.proofs.numbers.number_keys.Goals as goal

pub at_rows-requires-clause-rows : goal.at_rows-requires-clause-rows
at_rows-requires-clause-rows g c = let within = rows_within c.args.keys.now c.in_ok-rows.rows.items c.sort.new.self.items c.in_ok-rows.ensures c.in_ok-sort.ensures.permutation in search (rules, within)

pub returns : goal.returns
returns g c = IfOk-weaker c.at_rows.result _ _ (λ v a. numbered_rows g.K.Ord.cmp c.args.keys.now c.in_ok-rows.rows.items c.sort.new.self.items c.in_ok-numbers.numbers.items v.items c.in_ok-rows.ensures c.in_ok-sort.ensures.permutation (rw (← c.as_slice.ensures.value) c.in_ok-numbers.ensures) (rw (← c.as_slice-2.ensures.value, ← c.as_slice-3.ensures.value) a)) c.at_rows.ensures
