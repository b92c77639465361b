-- For the laws of evaluators: what a settled row says, and what settles one.
use Rattle.std.proofs.Common.{◌≡◌, ℕ, ◌<◌, Bool, true, false, not, ◌&&◌, ◌||◌, T, ltb, arith}
use Rattle.std.proofs.lemmas.Bool.Decides.{nat_tests}

pub settled_says : (i n : ℕ) (known b : Bool) → T (ltb i n && (known || b)) → (i < n) × (known ≡ false → b ≡ true)
settled_says i n known b h = (grind (arith, nat_tests), λ k. grind (arith, nat_tests))

pub settled_by : (i n : ℕ) (known b : Bool) → i < n → (known || b) ≡ true → T (ltb i n && (known || b))
settled_by i n known b h k = grind (arith, nat_tests)

pub settled_no : (i n : ℕ) (b : Bool) → not b ≡ true → (ltb i n && b) ≡ false
settled_no i n b h = grind (arith, nat_tests)

pub settled_yes : (i n : ℕ) (b : Bool) → i < n → not b ≡ false → (ltb i n && b) ≡ true
settled_yes i n b l h = grind (arith, nat_tests)
