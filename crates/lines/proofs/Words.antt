-- Small letters.
use Rattle.std.proofs.Common.{ℕ, zero, suc, ◌<◌, ◌&&◌, Bool, true, T, List, [], ◌∷◌, length, get_or, nat_le, nat_lt, rules, arith}
use Rattle.std.specs.Int.{IsInRange}
use Rattle.lines.specs.Back.{IsWord}

abbrev pub are_letters : List ℕ → Bool
are_letters [] = true
are_letters (b ∷ bs) = nat_le 97 b && nat_le b 122 && are_letters bs

letter_at : (bs : List ℕ) → T (are_letters bs) → (k : ℕ) → k < length bs → IsInRange 97 122 (get_or bs k 0)
letter_at [] h k l = absurd (omega (arith, l))
letter_at (b ∷ bs) h zero l = grind (arith, h)
letter_at (b ∷ bs) h (suc k) l = letter_at bs (search (rules, h)) k (omega (arith, l))

pub word : (bs : List ℕ) → T (nat_lt 0 (length bs) && are_letters bs) → IsWord bs
word [] h = absurd h
word (b ∷ bs) h = (omega arith, letter_at (b ∷ bs) (search (rules, h)))
