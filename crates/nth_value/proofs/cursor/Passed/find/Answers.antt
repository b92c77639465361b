use Rattle.std.proofs.Common.{◌≡◌, ◌<◌, ◌-◌, ℕ, reverse, sym, subst, arith, rules}
use Rattle.std.specs.List.{slice_get}
use Rattle.present.specs.Present.{at, ahead}
use Rattle.present.specs.Counting.{Counting}
use Rattle.present.proofs.Parts.{from_on}
use Rattle.nth_value.proofs.Cursors.{count_on, behind_found}
use Rattle.nth_value.proofs.cursor.Passed.find.Goals as goal

pub loop-row-preserved : goal.loop-row-preserved
loop-row-preserved g c =
    let known = c.loop-row.self in
    (c.loop-row.invariant.0, λ rows all k. count_on c.args.window.now rows known.m c.loop-row.row known.held c.count_row-self.result all (omega (arith, c.loop-row.invariant.0, k.0)) (search rules) (c.loop-row.invariant.1 rows all k))

pub returns-clause-found : goal.returns-clause-found
returns-clause-found g c rows all k =
    let known = c.loop-row.self in
    let some : 0 < known.m = omega (arith, c.loop-row.invariant.0, k.0) in
    let d = c.loop-row.invariant.1 rows all k in
    let here : c.loop-row.row ≡ c.args.frame.1 = omega (arith, c.loop-row-test.false, c.loop-row.auto.row-end) in
    let kept : c.filter.result ≡ from_on c.args.frame.0 c.oldest_source.result = search rules in (
      (some, subst (λ (n : ℕ). Counting known.m known.held rows n) (sym d.1) d.0),
      subst (λ (m : ℕ). c.filter.result ≡ slice_get (reverse (ahead (at rows) c.args.frame.0 (c.args.frame.1 - c.args.frame.0))) (m - 1)) c.loop-row.invariant.0 (behind_found rows known.m c.args.frame.0 c.args.frame.1 known.held c.oldest_source.result c.filter.result some (subst (λ (n : ℕ). Counting known.m known.held rows n) here d.0) c.oldest_source.ensures kept),
    )
