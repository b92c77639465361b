-- The words of arguments.
use Rattle.std.proofs.Common.{◌≡◌, ℕ, ◌<◌, ◌≤◌, List, ◌++◌, codes, decimal, length, get_or, refl, arith}
use Rattle.std.specs.Fmt.{signed_decimal}
use Rattle.std.proofs.lemmas.List.{get_or_append_left}
use Rattle.evaluator.specs.declared.utils.Argument.{Argument}
use Rattle.evaluator.specs.declared.utils.Argument.TheVariants.{Missing, Null, Signed, Unsigned, NotInteger}
use Rattle.lines.specs.Back.{EndsWord, IsWord}
use Rattle.lines.proofs.Words.{word}
use Rattle.lines.specs.Begins.{decimal_begins, signed_begins}
use Rattle.functions.specs.Words.{ArgumentFits, argument_text}

-- its letters, and what stands behind them
abbrev pub letters : Argument → List ℕ
letters Missing = codes "missing"
letters Null = codes "null"
letters (Signed v) = codes "s"
letters (Unsigned v) = codes "u"
letters NotInteger = codes "noint"

abbrev pub behind : Argument → List ℕ → List ℕ
behind Missing rest = codes ":" ++ rest
behind Null rest = codes ":" ++ rest
behind (Signed v) rest = signed_decimal v ++ (codes ":" ++ rest)
behind (Unsigned v) rest = decimal v ++ (codes ":" ++ rest)
behind NotInteger rest = codes ":" ++ rest

pub letters_word : (a : Argument) → IsWord (letters a)
letters_word Missing = word (codes "missing") tt
letters_word Null = word (codes "null") tt
letters_word (Signed v) = word (codes "s") tt
letters_word (Unsigned v) = word (codes "u") tt
letters_word NotInteger = word (codes "noint") tt

pub parted : (a : Argument) (rest : List ℕ) → argument_text a ++ (codes ":" ++ rest) ≡ letters a ++ behind a rest
parted Missing rest = refl
parted Null rest = refl
parted (Signed v) rest = refl
parted (Unsigned v) rest = refl
parted NotInteger rest = refl

after : (bs rest : List ℕ) → (0 < length bs) × (45 ≤ get_or bs 0 0) × (get_or bs 0 0 ≤ 57) → EndsWord (bs ++ rest)
after bs rest h = λ l. omega (arith, get_or_append_left bs rest 0 0 h.0, h.2, l)

pub ends : (a : Argument) (rest : List ℕ) → ArgumentFits a → EndsWord (behind a rest)
ends Missing rest fits = λ h. omega (arith, h)
ends Null rest fits = λ h. omega (arith, h)
ends (Signed v) rest fits = after (signed_decimal v) (codes ":" ++ rest) (signed_begins v fits)
ends (Unsigned v) rest fits = after (decimal v) (codes ":" ++ rest) (decimal_begins v fits)
ends NotInteger rest fits = λ h. omega (arith, h)
