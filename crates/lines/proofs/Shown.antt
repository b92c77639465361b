-- A number that is shown is read back.
use Rattle.std.proofs.Common.{◌≡◌, ℕ, suc, ◌<◌, ◌^◌, ◌==◌, false, cond, List, [], ◌∷◌, ◌++◌, drop, decimal, ℤ, pos, negsuc, neg_ℤ, Result, Ok, refl, sym, ap, ◌∙◌, subst, arith, FitsSigned, w64}
use Rattle.std.specs.Fmt.{signed_decimal}
use Rattle.std.specs.Str.Parse.{IsNumeral, ParsesSigned, ParsesUnsigned}
use Rattle.std.proofs.lemmas.Fmt.{decimal_is_IsNumeral, parse-decimal}
use Rattle.std.proofs.lemmas.List.{append_assoc}
use Rattle.std.proofs.lemmas.Result.{Ok-from_Ok_iff}
use Rattle.std.proofs.lemmas.Str.Parse.{digit_from_value, numerals_by_value, parse_signed_digits, parse_signed_minus, tells_digits}
use Rattle.lines.specs.Back.{IsNumber}

plain : (bs : List ℕ) → IsNumeral 10 bs → IsNumber bs
plain [] n = n
plain (b ∷ ds) n =
    let digit = digit_from_value b n.1.0 in
    let unsigned : (b == 45) ≡ false = grind (arith, digit) in
    subst (λ m. IsNumeral 10 (drop (cond m 1 0) (b ∷ ds))) (sym unsigned) n

pub unsigned_number : (n : ℕ) → n < 2 ^ 64 → IsNumber (decimal n)
unsigned_number n small = plain (decimal n) (decimal_is_IsNumeral n small).0

pub signed_number : (z : ℤ) → FitsSigned w64 z → IsNumber (signed_decimal z)
signed_number (pos n) fits = unsigned_number n (omega (arith, fits.sfits))
signed_number (negsuc n) fits = (decimal_is_IsNumeral (suc n) (omega (arith, fits.sfits))).0

pub unsigned_read : {E : Type 0} (k n : ℕ) (r : Result ℕ E) → n < 2 ^ k → n < 2 ^ 64 → ParsesUnsigned k 10 (decimal n) r → r ≡ Ok n
unsigned_read k n r fits small h = parse-decimal k n (decimal n) r fits small refl h

pub signed_read : {E : Type 0} (z : ℤ) (r : Result ℤ E) → FitsSigned w64 z → ParsesSigned w64 10 (signed_decimal z) r → r ≡ Ok z
signed_read (pos n) r fits h =
    let k = decimal_is_IsNumeral n (omega (arith, fits.sfits)) in
    let read = parse_signed_digits (numerals_by_value _ tells_digits) w64 (decimal n) r h k.0.1 in
    Ok-from_Ok_iff r _ _ read (k.0.0, omega (arith, k.1, fits.sfits)) ∙ ap (λ m. Ok (pos m)) k.1
signed_read (negsuc n) r fits h =
    let k = decimal_is_IsNumeral (suc n) (omega (arith, fits.sfits)) in
    let read = parse_signed_minus (numerals_by_value _ tells_digits) w64 (45 ∷ decimal (suc n)) r h refl in
    Ok-from_Ok_iff r _ _ read (k.0.1, k.0.0, omega (arith, k.1, fits.sfits)) ∙ ap (λ m. Ok (neg_ℤ (pos m))) k.1

pub parts : (xs first between second rest : List ℕ) → xs ≡ (first ++ (between ++ second)) ++ rest → xs ≡ first ++ (between ++ (second ++ rest))
parts xs first between second rest e = e ∙ append_assoc first (between ++ second) rest ∙ ap (λ t. first ++ t) (append_assoc between second rest)
