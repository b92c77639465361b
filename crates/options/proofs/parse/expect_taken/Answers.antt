use Rattle.std.proofs.Common.{◌∙◌, ap, below_more, sym}
use Rattle.std.proofs.lemmas.List.{get_or_default}
use Rattle.options.specs.declared.given.Given.{Given}
use Rattle.options.specs.Functions.{takes}
use Rattle.options.proofs.parse.expect_taken.Goals as goal

pub loop-one-preserved : goal.loop-one-preserved
loop-one-preserved c = below_more _ _ c.loop-one.invariant (λ d. ap (λ (x : Given). takes c.args.function c.args.drawn x.key) (get_or_default c.args.given.now c.loop-one.one-index d _ c.loop-one-test.true) ∙ sym c.takes.ensures ∙ c.if-not-takes.false)
