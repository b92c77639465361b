-- Present rows from the other end, where row r of n becomes row n - 1 - r.
use Rattle.std.proofs.Common.{◌≡◌, ℕ, zero, suc, ◌+◌, ◌-◌, ◌<◌, ◌≤◌, Bool, true, false, cond, List, ◌∷◌, map, reverse, length, get_or, is_some, None, Option, sym, refl, ap, ◌∙◌, arith}
use Rattle.std.proofs.lemmas.List.{get_or-reverse}
use Rattle.present.specs.Present.{at, before, ahead}
use Rattle.present.proofs.Behind.{behind_push}

-- the row that row r of n becomes
abbrev pub turn : ℕ → ℕ → ℕ
turn n r = n - 1 - r

-- a row's cell is that of the row that it becomes
pub at_turned : {V : Type 0} (cs : List (Option V)) (r : ℕ) → r < length cs → at (reverse cs) (turn (length cs) r) ≡ at cs r
at_turned cs r h =
    let e : length cs - 1 - (length cs - 1 - r) ≡ r = omega arith in
    get_or-reverse cs (length cs - 1 - r) None (omega arith) ∙ ap (λ (k : ℕ). get_or cs k None) e

both : (b : Bool) (x i : ℕ) (t : ℕ → ℕ) (xs ys : List ℕ) → x ≡ t i → xs ≡ map t ys → cond b (x ∷ xs) xs ≡ map t (cond b (i ∷ ys) ys)
both true x i t xs ys e q = ap (λ (k : ℕ). k ∷ xs) e ∙ ap (λ (zs : List ℕ). t i ∷ zs) q
both false x i t xs ys e q = q

-- the present rows of a stretch, turned, are those of the turned stretch from its last
pub ahead-turned : {V W : Type 0} (n : ℕ) (f : ℕ → Option V) (g : ℕ → Option W) → ((r : ℕ) → r < n → is_some (g (turn n r)) ≡ is_some (f r)) → (s k : ℕ) → s + k ≤ n → ahead g (n - (s + k)) k ≡ map (turn n) (reverse (ahead f s k))
ahead-turned n f g same s zero h = refl
ahead-turned n f g same s (suc k) h =
    let here : n - (s + suc k) ≡ turn n (s + k) = omega arith in
    let on : n - (s + suc k) + 1 ≡ n - (s + k) = omega arith in
    let cell : is_some (g (n - (s + suc k))) ≡ is_some (f (s + k)) = ap (λ (x : ℕ). is_some (g x)) here ∙ same (s + k) (omega arith) in
    let rest : ahead g (n - (s + suc k) + 1) k ≡ map (turn n) (reverse (ahead f s k)) = ap (λ (x : ℕ). ahead g x k) on ∙ ahead-turned n f g same s k (omega arith) in
    ap (λ (b : Bool). cond b ((n - (s + suc k)) ∷ ahead g (n - (s + suc k) + 1) k) (ahead g (n - (s + suc k) + 1) k)) cell ∙ (both (is_some (f (s + k))) (n - (s + suc k)) (s + k) (turn n) (ahead g (n - (s + suc k) + 1) k) (reverse (ahead f s k)) here rest ∙ sym (ap (map (turn n)) (behind_push f s k)))

-- the present rows before a row are those from row 0 on, last first
before_reverse : {V : Type 0} (f : ℕ → Option V) (i : ℕ) → reverse (ahead f 0 i) ≡ before f i
before_reverse f zero = refl
before_reverse f (suc n) =
    let z : 0 + n ≡ n = omega arith in
    behind_push f 0 n ∙ (ap (λ (k : ℕ). cond (is_some (f k)) (k ∷ reverse (ahead f 0 n)) (reverse (ahead f 0 n))) z ∙ ap (λ (xs : List ℕ). cond (is_some (f n)) (n ∷ xs) xs) (before_reverse f n))

-- turned, they are those ahead
pub before_turned : {V : Type 0} (cs : List (Option V)) (i : ℕ) → i ≤ length cs → ahead (at (reverse cs)) (length cs - i) i ≡ map (turn (length cs)) (before (at cs) i)
before_turned cs i h =
    let z : 0 + i ≡ i = omega arith in
    ap (λ (k : ℕ). ahead (at (reverse cs)) (length cs - k) i) (sym z) ∙ (ahead-turned (length cs) (at cs) (at (reverse cs)) (λ r u. ap is_some (at_turned cs r u)) 0 i (omega arith) ∙ ap (map (turn (length cs))) (before_reverse (at cs) i))

-- no more rows are present than there are
cond_short : (b : Bool) (x k : ℕ) (xs : List ℕ) → length xs ≤ k → length (cond b (x ∷ xs) xs) ≤ suc k
cond_short true x k xs h = omega arith
cond_short false x k xs h = omega arith

pub ahead_short : {V : Type 0} (f : ℕ → Option V) (s k : ℕ) → length (ahead f s k) ≤ k
ahead_short f s zero = omega arith
ahead_short f s (suc k) = cond_short (is_some (f s)) s k (ahead f (s + 1) k) (ahead_short f (s + 1) k)
