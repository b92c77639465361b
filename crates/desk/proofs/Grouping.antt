-- The peer groups of a partition's rows, as they are worked out.
use Rattle.std.proofs.Common.{◌≡◌, ℕ, ◌≤◌, ltb, true, List, [], ◌∷◌, ◌++◌, length, map, take, drop, replicate, Option, Some, None, Ok, Err, refl, ap, ◌∙◌, arith}
use Rattle.std.proofs.lemmas.Bool.{cond-false, le-ltb}
use Rattle.std.proofs.lemmas.List.{take-append-le, take_all}
use Rattle.column.specs.declared.fault.Fault.{Fault}
use Rattle.column.specs.declared.fault.Fault.TheVariants.{ShortGroups}
use Rattle.column.specs.Cells.{cells}
use Rattle.column.specs.Refusal.{kept_or, or_else, yields}
use Rattle.partition.specs.Peers.{Group}
use Rattle.partition.specs.Table.{at_front, places_refusal}

-- values that are all present
pub all_present : {X V : Type 0} (f : X → V) (xs : List X) → cells (map f xs) (replicate (length xs) true) ≡ map (λ x. Some (f x)) xs
all_present f [] = refl
all_present f (x ∷ xs) = ap (λ l. Some (f x) ∷ l) (all_present f xs)

taken : (groups old : List Group) → take (length groups) (groups ++ drop (length groups) old) ≡ groups
taken groups old = take-append-le (length groups) groups (drop (length groups) old) (omega arith) ∙ take_all (length groups) groups (omega arith)

-- the groups that were written, where none was refused
pub written : (groups old new : List Group) (refusal : Option Fault) (count : ℕ) → Ok count ≡ yields (length groups) refusal → new ≡ kept_or refusal old (at_front groups old) → take count new ≡ groups
written groups old new None count e n = let c : count ≡ length groups = cc in ap (λ (k : ℕ). take k new) c ∙ ap (take (length groups)) n ∙ taken groups old
written groups old new (Some f) count e n = absurd (cc)

-- with a place for each group only the column is refused
pub refused : (column : Option Fault) (count places : ℕ) (f : Fault) → count ≤ places → Err f ≡ yields count (or_else column (places_refusal count places)) → column ≡ Some f
refused (Some g) count places f h e = cc
refused None count places f h e =
    let z : places_refusal count places ≡ None = cond-false (ltb places count) (Some (ShortGroups places)) None (le-ltb places count h) in
    absurd (cc)
