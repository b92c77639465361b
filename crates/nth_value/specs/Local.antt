-- An answer over a frame depends on the frame's rows alone.
use Rattle.std.specs.Prelude.{◌≡◌, ℕ, ◌-◌, ◌<◌, ◌≤◌, Bool, true, false, List, reverse, Some, None, Option, nat_le, refl}
use Rattle.std.proofs.Common.{sym, ◌∙◌, ap, ⊎_elim, arith}
use Rattle.std.specs.List.{slice_get}
use Rattle.std.proofs.lemmas.Bool.{cases_lt, leb-true}
use Rattle.std.proofs.lemmas.Option.{cond_some}
use Rattle.present.specs.Present.{before, ahead}
use Rattle.present.proofs.Counts.{number_of}
use Rattle.present.proofs.Ahead.{ahead-number, ahead-same}
use Rattle.present.proofs.Parts.{from_on, behind-before}
use Rattle.nth_value.specs.declared.kind.Pick.{Pick}
use Rattle.nth_value.specs.declared.kind.Pick.TheVariants.{Nothing, FromStart, FromEnd}
use Rattle.nth_value.specs.Frames.{frame_rows, picked, cell_of, value_in}
use Rattle.nth_value.specs.Spans.{full, span-full}

-- a row from row s on that was found
from-says : (s : ℕ) (o : Option ℕ) (r : ℕ) → from_on s o ≡ Some r → (s ≤ r) × (o ≡ Some r)
from-says s None r h = let z : ◌≡◌ {A = ℕ} 0 1 = cc in absurd (omega arith)
from-says s (Some x) r h = let c = cond_some (nat_le s x) x r h in (omega (arith, leb-true s x c.0, c.1), ap Some c.1)

behind-within : {V : Type 0} (f : ℕ → Option V) (s e j r : ℕ) → slice_get (reverse (ahead f s (e - s))) j ≡ Some r → (s ≤ r) × (r < e)
behind-within f s e j r h = ⊎_elim
    (λ l. let z : e - s ≡ 0 = omega arith in let none : slice_get (reverse (ahead f s (e - s))) j ≡ None = ap (λ (n : ℕ). slice_get (reverse (ahead f s n)) j) z in let y : ◌≡◌ {A = ℕ} 0 1 = cc in absurd (omega arith))
    (λ l. let w = from-says s (slice_get (before f e) j) r (sym (behind-before f s e j l) ∙ h) in (w.0, (number_of f e j r w.1).below))
    (cases_lt e s)

ahead_within : {V : Type 0} (f : ℕ → Option V) (s e j r : ℕ) → slice_get (ahead f s (e - s)) j ≡ Some r → (s ≤ r) × (r < e)
ahead_within f s e j r h = let a = ahead-number f s (e - s) j r h in (a.from, omega (arith, a.from, a.below))

-- the row counted to is one of the frame's
pub picked-within : {V : Type 0} (pick : Pick) (ignoring : Bool) (f : ℕ → Option V) (s e r : ℕ) → picked pick (frame_rows ignoring f (s, e)) ≡ Some r → (s ≤ r) × (r < e)
picked-within Nothing ignoring f s e r h = let z : ◌≡◌ {A = ℕ} 0 1 = cc in absurd (omega arith)
picked-within (FromStart m) false f s e r h = ahead_within full s e (m - 1) r (ap (λ (xs : List ℕ). slice_get xs (m - 1)) (sym (span-full s (e - s))) ∙ h)
picked-within (FromStart m) true f s e r h = ahead_within f s e (m - 1) r h
picked-within (FromEnd m) false f s e r h = behind-within full s e (m - 1) r (ap (λ (xs : List ℕ). slice_get (reverse xs) (m - 1)) (sym (span-full s (e - s))) ∙ h)
picked-within (FromEnd m) true f s e r h = behind-within f s e (m - 1) r h

-- cells that agree on the frame's rows give the same rows of it
pub rows_same : {V : Type 0} (ignoring : Bool) (f g : ℕ → Option V) (s e : ℕ) → ((k : ℕ) → s ≤ k → k < e → f k ≡ g k) → frame_rows ignoring f (s, e) ≡ frame_rows ignoring g (s, e)
rows_same false f g s e h = refl
rows_same true f g s e h = ahead-same f g s (e - s) (λ k l u. h k l (omega arith))

pub cell_same : {V : Type 0} (f g : ℕ → Option V) (o : Option ℕ) → ((r : ℕ) → o ≡ Some r → f r ≡ g r) → cell_of f o ≡ cell_of g o
cell_same f g None h = refl
cell_same f g (Some r) h = h r refl

-- and the same answer
pub value_same : {V : Type 0} (pick : Pick) (ignoring : Bool) (f g : ℕ → Option V) (s e : ℕ) → ((k : ℕ) → s ≤ k → k < e → f k ≡ g k) → value_in pick ignoring f (s, e) ≡ value_in pick ignoring g (s, e)
value_same pick ignoring f g s e h =
    let rows : picked pick (frame_rows ignoring f (s, e)) ≡ picked pick (frame_rows ignoring g (s, e)) = ap (picked pick) (rows_same ignoring f g s e h) in
    cell_same f g (picked pick (frame_rows ignoring f (s, e))) (λ r q. let w = picked-within pick ignoring f s e r q in h r w.0 w.1) ∙ ap (cell_of g) rows
