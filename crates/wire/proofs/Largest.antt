-- The largest of some bytes, and the first above 1.
use Rattle.std.proofs.Common.{◌≡◌, ℕ, ◌<◌, ◌≤◌, List, [], ◌∷◌, length, get_or, None, suc, refl, rules, arith}
use Rattle.wire.specs.Lists.{mark_flaw}

-- none of the first k bytes is above n
abbrev pub Below : List ℕ → ℕ → ℕ → Type 0
Below bytes n k = (j : ℕ) → j < k → get_or bytes j 0 ≤ n

pub no_flaw : (bytes : List ℕ) (n : ℕ) → n ≤ 1 → Below bytes n (length bytes) → mark_flaw bytes ≡ None
no_flaw [] n h below = refl
no_flaw (b ∷ bs) n h below =
    let first : b ≤ n = below 0 (omega arith) in
    let rest : mark_flaw bs ≡ None = no_flaw bs n h (λ j i. below (suc j) (omega arith)) in
    let small : b ≤ 1 = omega arith in
    search (rules, small, rest)
