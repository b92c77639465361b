use Rattle.std.proofs.Common.{◌≡◌, ◌+◌, ◌==◌, cond, rules, slice_index}
use Rattle.lines.proofs.Numbers.{number_ends}
use Rattle.lines.proofs.scan.number_end.Goals as goal
use Rattle.lines.proofs.scan.number_end.Goals.{then-eq, else-eq}

pub returns-clause-back : goal.returns-clause-back
returns-clause-back c =
    let begin : c.if-eq.digits ≡ c.args.from + cond (slice_index c.args.text.now c.args.from == 45) 1 0 = elim c.if-eq.branch [ then-eq w ↦ search rules | else-eq w ↦ search rules ] in
    λ bs rest e ends n. number_ends c.args.text.now bs rest c.args.from c.if-eq.digits c.run_end.result e ends n begin (search rules) (search rules) (λ h. search (rules, c.run_end.ensures.stops h)) (λ k h. search (rules, c.run_end.ensures.each k h))
