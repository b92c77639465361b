-- Raw records and their fields, and the first thing that is wrong with one. Assumes nothing.
use Rattle.std.specs.Prelude.{◌≡◌, ℕ, ◌+◌, ◌<◌, ◌⊎◌, List, [], ◌∷◌, ◌++◌, map, length, All}
use Rattle.std.specs.Borrow.{Bor}
use Rattle.std.specs.List.{flat_map, join_with_byte}
use Rattle.table.specs.declared.fault.Fault.{Fault}
use Rattle.table.specs.declared.stop.Stop.{Stop}
use Rattle.table.specs.declared.stop.Stop.TheVariants.{Memory, At}
use Rattle.table.specs.Fields.{BadAt, Field}

-- a record as it stands in a file is its fields, with commas between
pub record IsRow (raw : List ℕ) (fields : List (Bor (List ℕ))) : Type 0 where
  pub some : 0 < length fields
  pub joined : raw ≡ join_with_byte 44 (map (λ f. f.now) fields)
  pub each : All (λ f. Field f.now) fields

-- what ends a record: a line feed, perhaps behind a carriage return, or nothing where the text ends
abbrev pub IsEnd : List ℕ → List ℕ → Type 0
IsEnd end rest = (end ≡ 10 ∷ []) ⊎ ((end ≡ 13 ∷ 10 ∷ []) ⊎ ((end ≡ []) × (rest ≡ [])))

-- a text is a record, its end, and a rest
pub record Leads (text raw : List ℕ) (fields : List (Bor (List ℕ))) (rest : List ℕ) : Type 0 where
  pub row : IsRow raw fields
  pub end : List ℕ
  pub whole : text ≡ raw ++ (end ++ rest)
  pub ends : IsEnd end rest

-- fields, each with a comma behind it
abbrev pub begun_text : List (Bor (List ℕ)) → List ℕ
begun_text fields = flat_map (λ f. f.now ++ (44 ∷ [])) fields

-- a record is begun by fields, and no field follows: the first byte at which that shows
pub record BadRow (text : List ℕ) (at : ℕ) (fault : Fault) : Type 0 where
  pub begun : List (Bor (List ℕ))
  pub each : All (λ f. Field f.now) begun
  pub rest : List ℕ
  pub whole : text ≡ begun_text begun ++ rest
  pub place : ℕ
  pub at_is : at ≡ length (begun_text begun) + place
  pub bad : BadAt rest place fault

-- why no record was read: for want of memory, or for this
abbrev pub NoRow : List ℕ → Stop → Type 0
NoRow text Memory = Unit {0}
NoRow text (At at fault) = BadRow text at fault
