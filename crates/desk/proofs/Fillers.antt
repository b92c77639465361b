-- The lists of a partition's cells.
use Rattle.std.proofs.Common.{◌≡◌, List, [], ◌∷◌, Bool, map, Option, Some, None, is_some, refl, ap}
use Rattle.std.specs.Option.{unwrap_or}
use Rattle.column.specs.Cells.{cells}

one_more : {V : Type 0} (o : Option V) (d : V) (vs : List V) (ms : List Bool) (os : List (Option V)) → cells vs ms ≡ os → cells (unwrap_or o d ∷ vs) (is_some o ∷ ms) ≡ o ∷ os
one_more (Some v) d vs ms os e = ap (λ l. Some v ∷ l) e
one_more None d vs ms os e = ap (λ l. None ∷ l) e

-- values with a filler under NULL, beside the marks
pub cells_mapped : {X V : Type 0} (f : X → Option V) (xs : List X) (d : V) → cells (map (λ x. unwrap_or (f x) d) xs) (map (λ x. is_some (f x)) xs) ≡ map f xs
cells_mapped f [] d = refl
cells_mapped f (x ∷ xs) d = one_more (f x) d (map (λ y. unwrap_or (f y) d) xs) (map (λ y. is_some (f y)) xs) (map f xs) (cells_mapped f xs d)

-- the same of lists that are these
pub cells_are : {X V : Type 0} (f : X → Option V) (xs : List X) (d : V) (vs : List V) (ms : List Bool) → vs ≡ map (λ x. unwrap_or (f x) d) xs → ms ≡ map (λ x. is_some (f x)) xs → cells vs ms ≡ map f xs
cells_are f xs d vs ms p q = rw (p, q) (cells_mapped f xs d)
