use Rattle.std.proofs.Common.{◌++◌, ◌∙◌, codes, decimal, refl, rules, arith}
use Rattle.std.specs.Fmt.{signed_decimal}
use Rattle.evaluator.specs.declared.utils.Argument.TheVariants.{Missing, Null, Signed, Unsigned, NotInteger}
use Rattle.lines.proofs.Shown.{signed_number, signed_read, unsigned_number, unsigned_read}
use Rattle.functions.proofs.Arguments.{behind, ends, letters, letters_word, parted}
use Rattle.functions.proofs.argument.read_argument.Goals as goal

pub returns-in_err-number-in-s-clause-back : goal.returns-in_err-number-in-s-clause-back
returns-in_err-number-in-s-clause-back c Missing rest fits e =
    let told = c.word.ensures.back (letters Missing) (behind Missing rest) (letters_word Missing) (e ∙ parted Missing rest) (ends Missing rest fits) in
    absurd (search (rules, told.0))
returns-in_err-number-in-s-clause-back c Null rest fits e =
    let told = c.word.ensures.back (letters Null) (behind Null rest) (letters_word Null) (e ∙ parted Null rest) (ends Null rest fits) in
    absurd (search (rules, told.0))
returns-in_err-number-in-s-clause-back c (Signed v) rest fits e =
    let told = c.word.ensures.back (letters (Signed v)) (behind (Signed v) rest) (letters_word (Signed v)) (e ∙ parted (Signed v) rest) (ends (Signed v) rest fits) in
    let number = c.number.ensures.back (signed_decimal v) v (signed_number v fits) (λ s h. signed_read v s fits h.0) (codes ":" ++ rest) told.1 (λ h. omega (arith, h)) in
    absurd (search (rules, number.0))
returns-in_err-number-in-s-clause-back c (Unsigned v) rest fits e =
    let told = c.word.ensures.back (letters (Unsigned v)) (behind (Unsigned v) rest) (letters_word (Unsigned v)) (e ∙ parted (Unsigned v) rest) (ends (Unsigned v) rest fits) in
    absurd (search (rules, told.0))
returns-in_err-number-in-s-clause-back c NotInteger rest fits e =
    let told = c.word.ensures.back (letters NotInteger) (behind NotInteger rest) (letters_word NotInteger) (e ∙ parted NotInteger rest) (ends NotInteger rest fits) in
    absurd (search (rules, told.0))

pub returns-in_err-number-in-u-clause-back : goal.returns-in_err-number-in-u-clause-back
returns-in_err-number-in-u-clause-back c Missing rest fits e =
    let told = c.word.ensures.back (letters Missing) (behind Missing rest) (letters_word Missing) (e ∙ parted Missing rest) (ends Missing rest fits) in
    absurd (search (rules, told.0))
returns-in_err-number-in-u-clause-back c Null rest fits e =
    let told = c.word.ensures.back (letters Null) (behind Null rest) (letters_word Null) (e ∙ parted Null rest) (ends Null rest fits) in
    absurd (search (rules, told.0))
returns-in_err-number-in-u-clause-back c (Signed v) rest fits e =
    let told = c.word.ensures.back (letters (Signed v)) (behind (Signed v) rest) (letters_word (Signed v)) (e ∙ parted (Signed v) rest) (ends (Signed v) rest fits) in
    absurd (search (rules, told.0))
returns-in_err-number-in-u-clause-back c (Unsigned v) rest fits e =
    let told = c.word.ensures.back (letters (Unsigned v)) (behind (Unsigned v) rest) (letters_word (Unsigned v)) (e ∙ parted (Unsigned v) rest) (ends (Unsigned v) rest fits) in
    let number = c.number-in-u.ensures.back (decimal v) v (unsigned_number v fits) (λ s h. unsigned_read 64 v s fits fits h.0) (codes ":" ++ rest) told.1 (λ h. omega (arith, h)) in
    absurd (search (rules, number.0))
returns-in_err-number-in-u-clause-back c NotInteger rest fits e =
    let told = c.word.ensures.back (letters NotInteger) (behind NotInteger rest) (letters_word NotInteger) (e ∙ parted NotInteger rest) (ends NotInteger rest fits) in
    absurd (search (rules, told.0))

pub returns-in-missing-clause-back : goal.returns-in-missing-clause-back
returns-in-missing-clause-back c Missing rest fits e =
    let told = c.word.ensures.back (letters Missing) (behind Missing rest) (letters_word Missing) (e ∙ parted Missing rest) (ends Missing rest fits) in
    (refl, told.1)
returns-in-missing-clause-back c Null rest fits e =
    let told = c.word.ensures.back (letters Null) (behind Null rest) (letters_word Null) (e ∙ parted Null rest) (ends Null rest fits) in
    absurd (search (rules, told.0))
returns-in-missing-clause-back c (Signed v) rest fits e =
    let told = c.word.ensures.back (letters (Signed v)) (behind (Signed v) rest) (letters_word (Signed v)) (e ∙ parted (Signed v) rest) (ends (Signed v) rest fits) in
    absurd (search (rules, told.0))
returns-in-missing-clause-back c (Unsigned v) rest fits e =
    let told = c.word.ensures.back (letters (Unsigned v)) (behind (Unsigned v) rest) (letters_word (Unsigned v)) (e ∙ parted (Unsigned v) rest) (ends (Unsigned v) rest fits) in
    absurd (search (rules, told.0))
returns-in-missing-clause-back c NotInteger rest fits e =
    let told = c.word.ensures.back (letters NotInteger) (behind NotInteger rest) (letters_word NotInteger) (e ∙ parted NotInteger rest) (ends NotInteger rest fits) in
    absurd (search (rules, told.0))

pub returns-in-null-clause-back : goal.returns-in-null-clause-back
returns-in-null-clause-back c Missing rest fits e =
    let told = c.word.ensures.back (letters Missing) (behind Missing rest) (letters_word Missing) (e ∙ parted Missing rest) (ends Missing rest fits) in
    absurd (search (rules, told.0))
returns-in-null-clause-back c Null rest fits e =
    let told = c.word.ensures.back (letters Null) (behind Null rest) (letters_word Null) (e ∙ parted Null rest) (ends Null rest fits) in
    (refl, told.1)
returns-in-null-clause-back c (Signed v) rest fits e =
    let told = c.word.ensures.back (letters (Signed v)) (behind (Signed v) rest) (letters_word (Signed v)) (e ∙ parted (Signed v) rest) (ends (Signed v) rest fits) in
    absurd (search (rules, told.0))
returns-in-null-clause-back c (Unsigned v) rest fits e =
    let told = c.word.ensures.back (letters (Unsigned v)) (behind (Unsigned v) rest) (letters_word (Unsigned v)) (e ∙ parted (Unsigned v) rest) (ends (Unsigned v) rest fits) in
    absurd (search (rules, told.0))
returns-in-null-clause-back c NotInteger rest fits e =
    let told = c.word.ensures.back (letters NotInteger) (behind NotInteger rest) (letters_word NotInteger) (e ∙ parted NotInteger rest) (ends NotInteger rest fits) in
    absurd (search (rules, told.0))

pub returns-in-noint-clause-back : goal.returns-in-noint-clause-back
returns-in-noint-clause-back c Missing rest fits e =
    let told = c.word.ensures.back (letters Missing) (behind Missing rest) (letters_word Missing) (e ∙ parted Missing rest) (ends Missing rest fits) in
    absurd (search (rules, told.0))
returns-in-noint-clause-back c Null rest fits e =
    let told = c.word.ensures.back (letters Null) (behind Null rest) (letters_word Null) (e ∙ parted Null rest) (ends Null rest fits) in
    absurd (search (rules, told.0))
returns-in-noint-clause-back c (Signed v) rest fits e =
    let told = c.word.ensures.back (letters (Signed v)) (behind (Signed v) rest) (letters_word (Signed v)) (e ∙ parted (Signed v) rest) (ends (Signed v) rest fits) in
    absurd (search (rules, told.0))
returns-in-noint-clause-back c (Unsigned v) rest fits e =
    let told = c.word.ensures.back (letters (Unsigned v)) (behind (Unsigned v) rest) (letters_word (Unsigned v)) (e ∙ parted (Unsigned v) rest) (ends (Unsigned v) rest fits) in
    absurd (search (rules, told.0))
returns-in-noint-clause-back c NotInteger rest fits e =
    let told = c.word.ensures.back (letters NotInteger) (behind NotInteger rest) (letters_word NotInteger) (e ∙ parted NotInteger rest) (ends NotInteger rest fits) in
    (refl, told.1)

pub returns-in_ok-number-in-s-clause-back : goal.returns-in_ok-number-in-s-clause-back
returns-in_ok-number-in-s-clause-back c Missing rest fits e =
    let told = c.word.ensures.back (letters Missing) (behind Missing rest) (letters_word Missing) (e ∙ parted Missing rest) (ends Missing rest fits) in
    absurd (search (rules, told.0))
returns-in_ok-number-in-s-clause-back c Null rest fits e =
    let told = c.word.ensures.back (letters Null) (behind Null rest) (letters_word Null) (e ∙ parted Null rest) (ends Null rest fits) in
    absurd (search (rules, told.0))
returns-in_ok-number-in-s-clause-back c (Signed v) rest fits e =
    let told = c.word.ensures.back (letters (Signed v)) (behind (Signed v) rest) (letters_word (Signed v)) (e ∙ parted (Signed v) rest) (ends (Signed v) rest fits) in
    let number = c.number.ensures.back (signed_decimal v) v (signed_number v fits) (λ s h. signed_read v s fits h.0) (codes ":" ++ rest) told.1 (λ h. omega (arith, h)) in
    (search (rules, number.0), number.1)
returns-in_ok-number-in-s-clause-back c (Unsigned v) rest fits e =
    let told = c.word.ensures.back (letters (Unsigned v)) (behind (Unsigned v) rest) (letters_word (Unsigned v)) (e ∙ parted (Unsigned v) rest) (ends (Unsigned v) rest fits) in
    absurd (search (rules, told.0))
returns-in_ok-number-in-s-clause-back c NotInteger rest fits e =
    let told = c.word.ensures.back (letters NotInteger) (behind NotInteger rest) (letters_word NotInteger) (e ∙ parted NotInteger rest) (ends NotInteger rest fits) in
    absurd (search (rules, told.0))

pub returns-in_ok-number-in-u-clause-back : goal.returns-in_ok-number-in-u-clause-back
returns-in_ok-number-in-u-clause-back c Missing rest fits e =
    let told = c.word.ensures.back (letters Missing) (behind Missing rest) (letters_word Missing) (e ∙ parted Missing rest) (ends Missing rest fits) in
    absurd (search (rules, told.0))
returns-in_ok-number-in-u-clause-back c Null rest fits e =
    let told = c.word.ensures.back (letters Null) (behind Null rest) (letters_word Null) (e ∙ parted Null rest) (ends Null rest fits) in
    absurd (search (rules, told.0))
returns-in_ok-number-in-u-clause-back c (Signed v) rest fits e =
    let told = c.word.ensures.back (letters (Signed v)) (behind (Signed v) rest) (letters_word (Signed v)) (e ∙ parted (Signed v) rest) (ends (Signed v) rest fits) in
    absurd (search (rules, told.0))
returns-in_ok-number-in-u-clause-back c (Unsigned v) rest fits e =
    let told = c.word.ensures.back (letters (Unsigned v)) (behind (Unsigned v) rest) (letters_word (Unsigned v)) (e ∙ parted (Unsigned v) rest) (ends (Unsigned v) rest fits) in
    let number = c.number-in-u.ensures.back (decimal v) v (unsigned_number v fits) (λ s h. unsigned_read 64 v s fits fits h.0) (codes ":" ++ rest) told.1 (λ h. omega (arith, h)) in
    (search (rules, number.0), number.1)
returns-in_ok-number-in-u-clause-back c NotInteger rest fits e =
    let told = c.word.ensures.back (letters NotInteger) (behind NotInteger rest) (letters_word NotInteger) (e ∙ parted NotInteger rest) (ends NotInteger rest fits) in
    absurd (search (rules, told.0))

pub returns-in_default-clause-back : goal.returns-in_default-clause-back
returns-in_default-clause-back c Missing rest fits e =
    let told = c.word.ensures.back (letters Missing) (behind Missing rest) (letters_word Missing) (e ∙ parted Missing rest) (ends Missing rest fits) in
    absurd (search (rules, told.0))
returns-in_default-clause-back c Null rest fits e =
    let told = c.word.ensures.back (letters Null) (behind Null rest) (letters_word Null) (e ∙ parted Null rest) (ends Null rest fits) in
    absurd (search (rules, told.0))
returns-in_default-clause-back c (Signed v) rest fits e =
    let told = c.word.ensures.back (letters (Signed v)) (behind (Signed v) rest) (letters_word (Signed v)) (e ∙ parted (Signed v) rest) (ends (Signed v) rest fits) in
    absurd (search (rules, told.0))
returns-in_default-clause-back c (Unsigned v) rest fits e =
    let told = c.word.ensures.back (letters (Unsigned v)) (behind (Unsigned v) rest) (letters_word (Unsigned v)) (e ∙ parted (Unsigned v) rest) (ends (Unsigned v) rest fits) in
    absurd (search (rules, told.0))
returns-in_default-clause-back c NotInteger rest fits e =
    let told = c.word.ensures.back (letters NotInteger) (behind NotInteger rest) (letters_word NotInteger) (e ∙ parted NotInteger rest) (ends NotInteger rest fits) in
    absurd (search (rules, told.0))
