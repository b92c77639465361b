use Rattle.std.proofs.Common.{◌≡◌, ℕ, ◌+◌, ◌<◌, List, [], ◌∷◌, map, length, arith, length-append}
use Rattle.std.proofs.lemmas.List.Sums.{sum_by-cons}
use Rattle.std.specs.Borrow.{Bor}
use Rattle.std.specs.List.{join_with_byte}
use Rattle.options.specs.Words.{spread}

-- pieces with blanks between them are as long as with a blank behind each, but for the last
pub spread_joined : (ps : List (Bor (List ℕ))) → 0 < length ps → spread ps ≡ length (join_with_byte 32 (map (λ p. p.now) ps)) + 1
spread_joined [] h = omega (arith, h)
spread_joined (p ∷ []) h = omega (arith, sum_by-cons (λ (x : Bor (List ℕ)). length x.now + 1) p [])
spread_joined (p ∷ q ∷ ps) h =
    let first : spread (p ∷ q ∷ ps) ≡ length p.now + 1 + spread (q ∷ ps) = sum_by-cons (λ x. length x.now + 1) p (q ∷ ps) in
    let whole : length (join_with_byte 32 (map (λ x. x.now) (p ∷ q ∷ ps))) ≡ length p.now + length (32 ∷ join_with_byte 32 (map (λ x. x.now) (q ∷ ps))) = length-append p.now (32 ∷ join_with_byte 32 (map (λ x. x.now) (q ∷ ps))) in
    let rest = spread_joined (q ∷ ps) (omega arith) in
    omega (arith, first, whole, rest)
