use Rattle.std.proofs.Common.{arith, ◌+◌, ◌*◌, ◌∷◌, [], ap, subst, ℕ, length, length-append}
use Rattle.table.specs.Contents.{Says, bytes_of}
use Rattle.table.proofs.Saying.{says_more}
use Rattle.table.proofs.columns.contents.Goals as goal

pub loop-row-preserved : goal.loop-row-preserved
loop-row-preserved c =
    let all = c.loop-row.invariant.0 in
    let content = c.in_ok-unquote.field-0 in
    let pushed = c.in_ok-push.ensures.items in
    let place : ℕ → ℕ = λ k. (k + 1) * c.args.table.now.width + c.args.column in (
      omega (arith, ap length pushed, length-append c.loop-row.contents.items (content ∷ []), all),
      says_more place c.args.table.now.fields.items c.loop-row.contents.items content c.push.new.self.items pushed c.loop-row.invariant.1 (λ e. rw all (subst (λ raw. Says raw (bytes_of content)) (c.field_at.ensures e) c.in_ok-unquote.ensures)),
    )
