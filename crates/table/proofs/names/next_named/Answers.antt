use Rattle.std.proofs.Common.{arith, ℕ, ◌≤◌, ◌<◌, length, below_more, sym, ◌∙◌}
use Rattle.table.specs.Names.{Named}
use Rattle.table.proofs.Naming.{named_here, other_here}
use Rattle.table.proofs.names.next_named.Goals as goal

pub returns-then-eq : goal.returns-then-eq
returns-then-eq c = (
  omega arith,
  named_here c.args.names.now c.args.name.now c.loop-i.i _ c.loop-i-test.true (sym c.eq.ensures ∙ c.if-eq.true),
  c.loop-i.invariant,
)

pub loop-i-preserved : goal.loop-i-preserved
loop-i-preserved c =
    λ j l h. below_more (λ (k : ℕ). c.args.from ≤ k → Named c.args.names.now c.args.name.now k → ⊥) c.loop-i.i (λ k b l. c.loop-i.invariant k l b) (λ l. other_here c.args.names.now c.args.name.now c.loop-i.i _ (sym c.eq.ensures ∙ c.if-eq.false)) j h l

pub returns : goal.returns
returns c = λ k l n. c.loop-i.invariant k l (let h : k < length c.args.names.now = n.0 in omega arith) n
