-- The present rows of a part of a stretch are those of the stretch that lie in the part.
use Rattle.std.proofs.Common.{◌≡◌, ℕ, zero, suc, ◌+◌, ◌-◌, ◌<◌, ◌≤◌, Bool, true, false, cond, ltb, leb, List, ◌∷◌, reverse, is_some, Some, None, Option, sym, refl, ap, ◌∙◌, arith}
use Rattle.std.specs.List.{slice_get}
use Rattle.std.proofs.lemmas.Bool.{cond-true, cond-false, le-leb, lt-leb, lt-ltb, le-ltb}
use Rattle.present.specs.Present.{before, ahead}
use Rattle.present.specs.Counting.{up_to}
use Rattle.present.proofs.Counts.{number_of}
use Rattle.present.proofs.Ahead.{ahead-number}
use Rattle.present.proofs.Behind.{behind_push}

-- a row found, if it lies at or after row s
abbrev pub from_on : ℕ → Option ℕ → Option ℕ
from_on s None = None
from_on s (Some r) = cond (leb s r) (Some r) None

-- of the present rows before row e, those from row s on
pub cut : (s : ℕ) (o : Option ℕ) → ((r : ℕ) → o ≡ Some r → r < s) → None ≡ from_on s o
cut s None h = refl
cut s (Some r) h = sym (cond-false (leb s r) (Some r) None (lt-leb s r (h r refl)))

from_step : (s e : ℕ) (b : Bool) (xs ys : List ℕ) (j : ℕ) → s ≤ e → ((k : ℕ) → slice_get xs k ≡ from_on s (slice_get ys k)) → slice_get (cond b (e ∷ xs) xs) j ≡ from_on s (slice_get (cond b (e ∷ ys) ys) j)
from_step s e true xs ys zero h ih = sym (cond-true (leb s e) (Some e) None (le-leb s e h))
from_step s e true xs ys (suc j) h ih = ih j
from_step s e false xs ys j h ih = ih j

behind_grown : {V : Type 0} (f : ℕ → Option V) (s n j : ℕ) → slice_get (reverse (ahead f s n)) j ≡ from_on s (slice_get (before f (s + n)) j)
behind_grown f s zero j =
    let z : s + 0 ≡ s = omega arith in
    cut s (slice_get (before f s) j) (λ r e. (number_of f s j r e).below) ∙ ap (λ (x : ℕ). from_on s (slice_get (before f x) j)) (sym z)
behind_grown f s (suc n) j =
    let z : s + suc n ≡ suc (s + n) = omega arith in
    ap (λ (xs : List ℕ). slice_get xs j) (behind_push f s n) ∙ (from_step s (s + n) (is_some (f (s + n))) (reverse (ahead f s n)) (before f (s + n)) j (omega arith) (λ k. behind_grown f s n k) ∙ ap (λ (x : ℕ). from_on s (slice_get (before f x) j)) (sym z))

pub behind-before : {V : Type 0} (f : ℕ → Option V) (s e j : ℕ) → s ≤ e → slice_get (reverse (ahead f s (e - s))) j ≡ from_on s (slice_get (before f e) j)
behind-before f s e j h = let z : s + (e - s) ≡ e = omega arith in behind_grown f s (e - s) j ∙ ap (λ (x : ℕ). from_on s (slice_get (before f x) j)) z

-- of the present rows from row k on, those before row e
pub past : (e : ℕ) (o : Option ℕ) → ((r : ℕ) → o ≡ Some r → e ≤ r) → None ≡ up_to e o
past e None h = refl
past e (Some r) h = sym (cond-false (ltb r e) (Some r) None (le-ltb r e (h r refl)))

up_step : (k e : ℕ) (b : Bool) (xs ys : List ℕ) (j : ℕ) → k < e → ((i : ℕ) → slice_get xs i ≡ up_to e (slice_get ys i)) → slice_get (cond b (k ∷ xs) xs) j ≡ up_to e (slice_get (cond b (k ∷ ys) ys) j)
up_step k e true xs ys zero h ih = sym (cond-true (ltb k e) (Some k) None (lt-ltb k e h))
up_step k e true xs ys (suc j) h ih = ih j
up_step k e false xs ys j h ih = ih j

ahead_grown : {V : Type 0} (f : ℕ → Option V) (k a b j : ℕ) → slice_get (ahead f k a) j ≡ up_to (k + a) (slice_get (ahead f k (a + b)) j)
ahead_grown f k zero b j =
    past (k + 0) (slice_get (ahead f k (0 + b)) j) (λ r e. omega (arith, (ahead-number f k (0 + b) j r e).from))
ahead_grown f k (suc a) b j =
    let z : k + 1 + a ≡ k + suc a = omega arith in
    let n : suc a + b ≡ suc (a + b) = omega arith in
    up_step k (k + suc a) (is_some (f k)) (ahead f (k + 1) a) (ahead f (k + 1) (a + b)) j (omega arith) (λ i. ahead_grown f (k + 1) a b i ∙ ap (λ (x : ℕ). up_to x (slice_get (ahead f (k + 1) (a + b)) i)) z) ∙ ap (λ (x : ℕ). up_to (k + suc a) (slice_get (ahead f k x) j)) (sym n)

pub ahead_part : {V : Type 0} (f : ℕ → Option V) (s e n j : ℕ) → s ≤ e → e ≤ n → slice_get (ahead f s (e - s)) j ≡ up_to e (slice_get (ahead f s (n - s)) j)
ahead_part f s e n j h l =
    let z : s + (e - s) ≡ e = omega arith in
    let y : e - s + (n - e) ≡ n - s = omega arith in
    ahead_grown f s (e - s) (n - e) j ∙ (ap (λ (x : ℕ). up_to x (slice_get (ahead f s (e - s + (n - e))) j)) z ∙ ap (λ (x : ℕ). up_to e (slice_get (ahead f s x) j)) y)
