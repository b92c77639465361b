use Rattle.std.proofs.Common.{ℕ, codes, IfOk, Ok, Err, Result, rules}
use Rattle.lines.proofs.Passed.{led}
use Rattle.lines.specs.declared.stop.Bad.{Bad}
use Rattle.replayed.proofs.calls.read_close.Goals as goal

where_ok : {P Q : ℕ → Type 0} → ((n : ℕ) → P n → Q n) → (r : Result ℕ Bad) → IfOk r P → IfOk r Q
where_ok f (Ok n) h = f n h
where_ok f (Err bad) h = tt

pub returns : goal.returns
returns c =
    let all = led c.args.cursor.now c.expect.new.self c.number.new.self (codes " ") c.expect.ensures.onward c.number.ensures.onward c.in_ok-expect.ensures.text in
    record {
      reads = where_ok (λ n h. (_, all, (h.0.0.0, h.0.1))) c.number.result c.number.ensures.reads;
      onward = search rules;
    }
