use Rattle.std.proofs.Common.{rules, arith, ◌∷◌, [], ◌∙◌, ap, sym, subst, Bor, ℕ, List, length, length-append, get_or}
use Rattle.std.proofs.lemmas.List.{get_or_default, get_or-take}
use Rattle.table.specs.Contents.{Says, bytes_of}
use Rattle.table.proofs.Saying.{says_more}
use Rattle.table.proofs.columns.names.Goals as goal

pub loop-raw-preserved : goal.loop-raw-preserved
loop-raw-preserved c =
    let all = c.loop-raw.invariant.0 in
    let field = c.in_ok-unquote.field-0 in
    let pushed = c.in_ok-push.ensures.items in (
      omega (arith, ap length pushed, length-append c.loop-raw.names.items (field ∷ []), all),
      says_more (λ k. k) c.args.table.now.fields.items c.loop-raw.names.items field c.push.new.self.items pushed c.loop-raw.invariant.1 (λ e. subst (λ (r : Bor (List ℕ)). Says r.now (bytes_of field)) (get_or-take c.min-header.result c.deref.result.now c.loop-raw.raw-index _ (search rules) ∙ get_or_default c.deref.result.now c.loop-raw.raw-index _ e (search rules) ∙ ap (λ l. get_or l c.loop-raw.raw-index e) (search rules) ∙ ap (λ n. get_or c.args.table.now.fields.items n e) (sym all)) c.in_ok-unquote.ensures),
    )
