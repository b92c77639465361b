-- Numerals are ASCII.
use Rattle.std.proofs.Common.{◌≡◌, ◌==◌, ℕ, ◌<◌, zero, suc, Bool, true, false, cond, List, [], ◌∷◌, drop, refl, arith}
use Rattle.std.proofs.lemmas.Bool.Decides.{nat_tests}
use Rattle.std.proofs.lemmas.Str.{IsUtf8-from_ascii}
use Rattle.std.specs.Char.{digit_value}
use Rattle.std.specs.Str.{IsAscii, IsUtf8}
use Rattle.std.specs.Str.Parse.{AllDigits, without_leading_sign}

digit_ascii : (c : ℕ) → digit_value c < 10 → c < 128
digit_ascii c = grind (arith, nat_tests)

ascii_more : (c : ℕ) (cs : List ℕ) → c < 128 → IsAscii cs → IsAscii (c ∷ cs)
ascii_more c cs h all zero = h
ascii_more c cs h all (suc i) = all i

digits_ascii : (ds : List ℕ) → AllDigits 10 ds → IsAscii ds
digits_ascii [] h = λ i. omega arith
digits_ascii (c ∷ cs) h = ascii_more c cs (digit_ascii c h.0) (digits_ascii cs h.1)

sign_ascii : (c : ℕ) (cs : List ℕ) (minus plus : Bool) → (c == 45) ≡ minus → (c == 43) ≡ plus → AllDigits 10 (cond minus (drop 1 (c ∷ cs)) (drop (cond plus 1 0) (c ∷ cs))) → IsAscii (c ∷ cs)
sign_ascii c cs true plus m p h = ascii_more c cs (grind (arith, nat_tests)) (digits_ascii cs h)
sign_ascii c cs false true m p h = ascii_more c cs (grind (arith, nat_tests)) (digits_ascii cs h)
sign_ascii c cs false false m p h = digits_ascii (c ∷ cs) h

-- digits behind a sign are UTF-8
pub numeral_utf8 : (bs : List ℕ) → AllDigits 10 (without_leading_sign bs) → IsUtf8 bs
numeral_utf8 [] h = IsUtf8-from_ascii [] (digits_ascii [] tt)
numeral_utf8 (c ∷ cs) h = IsUtf8-from_ascii (c ∷ cs) (sign_ascii c cs (c == 45) (c == 43) refl refl h)
