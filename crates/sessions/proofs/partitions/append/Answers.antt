use Rattle.std.proofs.Common.{◌≡◌, length, vec_items, rules, sym, subst, ap, ◌∙◌, arith}
use Rattle.std.proofs.lemmas.List.{length-map}
use Rattle.sessions.specs.Sessions.{lists, Appended}
use Rattle.sessions.proofs.Groups.{append_at, appended_old, appended_new, lists_push}
use Rattle.sessions.proofs.partitions.append.Goals as goal
use Rattle.sessions.proofs.partitions.append.Goals.{then-session-len+in_ok-push, else-session-len}

pub returns-clause-after : goal.returns-clause-after
returns-clause-after c =
    let old = c.args.all.now in
    let mid = c.if-session-len.all in
    let n = c.args.session in
    let grown = append_at mid n c.index_mut-cells.result.now (search rules) (search rules) c.push-2.new.self c.args.cell (search rules) in
    let many : length (lists old) ≡ old.len = length-map old.items vec_items ∙ sym old.ok.0 in
    elim c.if-session-len.branch [
      | then-session-len+in_ok-push w ↦ subst (λ l. Appended (lists old) l n c.args.cell) (sym grown) (appended_new (lists old) (lists mid) n c.args.cell (w.if-session-len.true ∙ c.len.ensures ∙ sym many) (ap lists w.all-is ∙ lists_push old w.push.new.self w.new.result w.in_ok-push.ensures.items w.new.ensures.items))
      | else-session-len w ↦ subst (λ l. Appended (lists old) l n c.args.cell) (sym grown) (appended_old (lists old) (lists mid) n c.args.cell (omega (arith, many, c.requires, w.if-session-len.false, c.len.ensures)) (ap lists w.all-is))
    ]
