-- A partition whose frames are made to begin at 0, which settling wants, and what it shares with the partition.
use Rattle.std.proofs.Common.{◌≡◌, ℕ, zero, suc, ◌<◌, Bool, true, false, T, List, [], ◌∷◌, map, length, get_or, take, sym, refl, ap, ◌∙◌, arith}
use Rattle.std.proofs.lemmas.List.{length-map}
use Rattle.evaluator.specs.Meaning.{Partition}
use Rattle.partition.specs.Table.{Frame}
use Rattle.run.specs.Shown.{Framed, FromZero, Ordered, zeroed, based_frames, based}

pub zeroed-at : (fs : List Frame) (k : ℕ) → get_or (map zeroed fs) k (0, 0) ≡ (0, (get_or fs k (0, 0)).1)
zeroed-at [] k = refl
zeroed-at (f ∷ fs) zero = refl
zeroed-at (f ∷ fs) (suc k) = zeroed-at fs k

pub based-from_zero : {V : Type 0} (p : Partition V) → FromZero (based true p)
based-from_zero p k = ap (λ (f : Frame). f.0) (zeroed-at p.frames k)

pub length-based : (z : Bool) (fs : List Frame) → length (based_frames z fs) ≡ length fs
length-based true fs = length-map fs zeroed
length-based false fs = refl

pub based_framed : {V : Type 0} (z wants : Bool) (p : Partition V) → Framed wants p → Framed wants (based z p)
based_framed z true p h = length-based z p.frames ∙ h
based_framed true false p h = ap (map zeroed) h
based_framed false false p h = h

pub based_ordered : {V : Type 0} (z : Bool) (p : Partition V) (n : ℕ) → Ordered p n → Ordered (based z p) n
based_ordered true p n o = record {
  proper = λ k h l. omega (arith, ap (λ (f : Frame). f.0) (zeroed-at p.frames k));
  starts = λ j k i h l. omega (arith, ap (λ (f : Frame). f.0) (zeroed-at p.frames j));
  ends = λ j k i h l. omega (arith, o.ends j k i h (omega (arith, length-map p.frames zeroed)), ap (λ (f : Frame). f.1) (zeroed-at p.frames j), ap (λ (f : Frame). f.1) (zeroed-at p.frames k));
}
based_ordered false p n o = record { proper = o.proper; starts = o.starts; ends = o.ends }

-- where the first n frames begin at 0, making them begin at 0 changes none of them
pub take-zeroed : (n : ℕ) (fs : List Frame) → ((k : ℕ) → k < n → k < length fs → (get_or fs k (0, 0)).0 ≡ 0) → take n (map zeroed fs) ≡ take n fs
take-zeroed zero fs h = refl
take-zeroed (suc n) [] h = refl
take-zeroed (suc n) (f ∷ fs) h =
    let z : f.0 ≡ 0 = h 0 (omega arith) (omega arith) in
    let e : zeroed f ≡ f = ap (λ (x : ℕ). (x, f.1)) (sym z) in
    let t : take n (map zeroed fs) ≡ take n fs = take-zeroed n fs (λ k i l. h (suc k) (omega arith) (omega arith)) in
    ap (λ (x : Frame). x ∷ take n (map zeroed fs)) e ∙ ap (λ (xs : List Frame). f ∷ xs) t

pub take-based : (z : Bool) (n : ℕ) (fs : List Frame) → (T z → (k : ℕ) → k < n → k < length fs → (get_or fs k (0, 0)).0 ≡ 0) → take n (based_frames z fs) ≡ take n fs
take-based true n fs h = take-zeroed n fs (h tt)
take-based false n fs h = refl

-- a frame that begins at 0 where the setting asks it is the one that the partition made to begin at 0 has
pub at-based : (z : Bool) (fs : List Frame) (k : ℕ) → (T z → (get_or fs k (0, 0)).0 ≡ 0) → get_or (based_frames z fs) k (0, 0) ≡ get_or fs k (0, 0)
at-based true fs k h = zeroed-at fs k ∙ ap (λ (x : ℕ). (x, (get_or fs k (0, 0)).1)) (sym (h tt))
at-based false fs k h = refl
