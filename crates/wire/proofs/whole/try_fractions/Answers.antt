use Rattle.std.proofs.Common.{◌≡◌, length, true, false, slice_set, refl, rules, Err}
use Rattle.partition.specs.Table.{input, row_count, whole_refusal}
use Rattle.wire.specs.declared.stop.Stop.TheVariants.{Refused}
use Rattle.wire.specs.Whole.{handed, handed_input, fractional_answers}
use Rattle.wire.proofs.Ends.{refused_last}
use Rattle.wire.proofs.whole.try_fractions.Goals as goal

pub returns-in_err-write_fractions : goal.returns-in_err-write_fractions
returns-in_err-write_fractions g c =
    let same = g.C.Value.Kind.same in
    let x : input c.rows.result ≡ handed_input g.C.Crossing.coding (handed c.args.lent.now) = search rules in
    let t : c.from_residual-in_err-write_fractions.result ≡ Err (Refused c.in_err-write_fractions.field-0.0) = search rules in
    refused_last _ (λ y. whole_refusal same false true y (length c.args.answers.now)) (λ s i a. slice_set s i a) (fractional_answers same c.fractional.result) row_count _ _ _ _ _ _ _ _ c.in_ok-read.ensures.0 x c.in_err-write_fractions.ensures refl t
