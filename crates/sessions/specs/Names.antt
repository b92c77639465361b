-- A map that gives names their numbers. Assumes nothing.
use Rattle.std.specs.Prelude.{◌≡◌, ℕ, List, Some, Option}
use Rattle.std.specs.Borrow.{Bor}
use Rattle.std.specs.BTreeMap.{BTreeMap, get_by}
use Rattle.std.specs.Cmp.Lexicographic.{slice_cmp}
use Rattle.std.specs.Map.{update}
use Rattle.std.specs.Option.{unwrap_or}
use Rattle.std.specs.Ordering.{nat_cmp}
use Rattle.std.specs.Str.{bytes_eq}

-- the number of a name, if the map has it
abbrev pub number_in : BTreeMap (Bor (List ℕ)) ℕ → List ℕ → Option ℕ
number_in m name = get_by (λ k. slice_cmp nat_cmp name k.now) m

-- n is the name's number, the next one if it had none, and other names keep theirs
pub record Numbered (old new : BTreeMap (Bor (List ℕ)) ℕ) (name : List ℕ) (next n : ℕ) : Type 0 where
  pub number : n ≡ unwrap_or (number_in old name) next
  pub names : (v : List ℕ) → number_in new v ≡ update bytes_eq (number_in old) name (Some n) v
