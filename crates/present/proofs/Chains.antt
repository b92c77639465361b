-- The scans as chains: the present rows of a stretch are its rows filtered.
use Rattle.std.proofs.Common.{◌≡◌, ℕ, zero, suc, ◌+◌, ◌-◌, cond, List, [], ◌∷◌, reverse, length, is_some, Some, None, Option, sym, refl, ap, ◌∙◌, subst, arith}
use Rattle.std.specs.List.{filter, range_with_len}
use Rattle.std.specs.declared.ops.Range.{Range}
use Rattle.std.specs.declared.iter.Rev.{Rev}
use Rattle.std.specs.Iterator.Adapters.{rev_steps, rev_source}
use Rattle.std.proofs.iter.runs.Sources.{nat_range_steps_back}
use Rattle.std.proofs.lemmas.Iterator.{YieldsList}
use Rattle.std.proofs.lemmas.Iterator.Consumers.{YieldsList-from_shown}
use Rattle.present.specs.Present.{ahead}
use Rattle.present.proofs.Behind.{behind_push}

-- from the first row
pub ahead_filter : {V : Type 0} (f : ℕ → Option V) (k n : ℕ) → filter (λ r. is_some (f r)) (range_with_len k n) ≡ ahead f k n
ahead_filter f k zero = refl
ahead_filter f k (suc n) = ap (λ (xs : List ℕ). cond (is_some (f k)) (k ∷ xs) xs) (ahead_filter f (k + 1) n)

-- the rows from k on, last first
abbrev pub down : ℕ → ℕ → List ℕ
down k zero = []
down k (suc n) = (k + n) ∷ down k n

pub behind_filter : {V : Type 0} (f : ℕ → Option V) (k n : ℕ) → filter (λ r. is_some (f r)) (down k n) ≡ reverse (ahead f k n)
behind_filter f k zero = refl
behind_filter f k (suc n) = ap (λ (xs : List ℕ). cond (is_some (f (k + n))) ((k + n) ∷ xs) xs) (behind_filter f k n) ∙ sym (behind_push f k n)

-- a range from its end yields them
abbrev left : Rev (Range ℕ) → List ℕ
left s = down s.iter.start (s.iter.end - s.iter.start)

stops : (s t : Rev (Range ℕ)) → rev_steps nat_range_steps_back s None t → length (left s) ≡ 0
stops s t h = ap (λ (n : ℕ). length (down s.iter.start n)) h.1.0

goes : (s : Rev (Range ℕ)) (x : ℕ) (t : Rev (Range ℕ)) → rev_steps nat_range_steps_back s (Some x) t → left s ≡ x ∷ left t
goes s x t h =
    let n : s.iter.end - s.iter.start ≡ suc (t.iter.end - t.iter.start) = omega (arith, h.0, h.1.0, h.1.2) in
    let e : s.iter.start + (t.iter.end - t.iter.start) ≡ x = omega (arith, h.0, h.1.0, h.1.1, h.1.2) in
    ap (down s.iter.start) n ∙ (ap (λ (y : ℕ). y ∷ down s.iter.start (t.iter.end - t.iter.start)) e ∙ ap (λ (y : ℕ). x ∷ down y (t.iter.end - t.iter.start)) (sym h.0))

pub YieldsList-down : {s : Rev (Range ℕ)} (a b : ℕ) → rev_source s ≡ record { start = a; end = b } → YieldsList (rev_steps nat_range_steps_back) (λ x. x) s (down a (b - a))
YieldsList-down {s} a b e = subst (λ (r : Range ℕ). YieldsList (rev_steps nat_range_steps_back) (λ x. x) s (down r.start (r.end - r.start))) e (YieldsList-from_shown (rev_steps nat_range_steps_back) (λ x. x) left stops goes s)
