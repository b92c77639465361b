-- All rows of a frame are the present rows of cells that are all present.
use Rattle.std.specs.Prelude.{◌≡◌, ℕ, zero, suc, ◌+◌, List, ◌∷◌, Some, Option, refl}
use Rattle.std.specs.List.{range_with_len}
use Rattle.std.proofs.Common.{ap}
use Rattle.present.specs.Present.{ahead}

-- cells that are all present
abbrev pub full : ℕ → Option ℕ
full k = Some 0

pub span-full : (s n : ℕ) → range_with_len s n ≡ ahead full s n
span-full s zero = refl
span-full s (suc n) = ap (λ (xs : List ℕ). s ∷ xs) (span-full (s + 1) n)
