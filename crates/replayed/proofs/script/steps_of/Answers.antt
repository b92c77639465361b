use Rattle.std.proofs.Common.{◌≡◌, ◌+◌, [], drop, length, vec_items, subst, rules}
use Rattle.std.proofs.lemmas.List.{append-nil, drop_all}
use Rattle.replayed.specs.declared.calls.Op.TheVariants.{Finish}
use Rattle.replayed.specs.Replays.{ReadsSteps}
use Rattle.replayed.proofs.Steps.{reads_at, reads_none}
use Rattle.replayed.proofs.script.steps_of.Goals as goal

pub loop-i-preserved : goal.loop-i-preserved
loop-i-preserved c =
    let last : c.in_ok-op.op ≡ Finish → c.loop-i.i + 1 ≡ length c.args.lines.now = λ e. search (rules, e) in
    reads_at c.args.rows c.args.lines.now c.loop-i.i _ c.in_ok-op.op (vec_items c.loop-i.steps) (vec_items c.push.new.self) c.in_ok-push.ensures.items (search rules) (search rules) last c.loop-i.invariant

pub returns : goal.returns
returns c =
    let lines = c.args.lines.now in
    let left = drop_all c.loop-i.i lines (search rules) in
    let all = c.loop-i.invariant [] (reads_none c.args.rows (drop c.loop-i.i lines) left) in
    subst (ReadsSteps c.args.rows lines) (append-nil (vec_items c.loop-i.steps)) all
