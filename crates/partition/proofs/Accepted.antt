-- What an accepted call on a whole partition has.
use Rattle.std.proofs.Common.{◌≡◌, ℕ, ◌<◌, ◌≤◌, Bool, true, false, ◌&&◌, ◌||◌, List, [], ◌∷◌, length, get_or, Some, None, Option, sym, refl, ap, ◌∙◌, subst, arith}
use Rattle.std.proofs.lemmas.List.{nil_from_length, same_lists, get_or_default}
use Rattle.std.proofs.lemmas.Bool.Decides.{nat_tests}
use Rattle.column.specs.declared.fault.Fault.{Fault}
use Rattle.column.specs.Cells.{cells}
use Rattle.partition.specs.Peers.{Group, peers}
use Rattle.column.specs.Refusal.{column_refusal}
use Rattle.partition.specs.Table.{Frame, Input, row_count, absent, unfit, differ, frames_fault, groups_fault, unless_absent, frames_refusal, groups_refusal, absent_refusal, output_refusal, whole_refusal, Accepted}
use Rattle.column.proofs.Columns.{column-says}
use Rattle.column.proofs.Exits.{no_first}
use Rattle.partition.proofs.Faults.{fault_says}

unless_says : {X : Type 0} (x : X) (xs : List X) (f : ℕ → Fault) (place : Option ℕ) → unless_absent (x ∷ xs) f place ≡ None → place ≡ None
unless_says x xs f None e = refl
unless_says x xs f (Some k) e = cc

fit_says : (n : ℕ) (f : Frame) → unfit n f ≡ false → (f.0 ≤ f.1) × (f.1 ≤ n)
fit_says n f e = (grind (arith, nat_tests), grind (arith, nat_tests))

frames_fit : (n : ℕ) (fs : List Frame) → frames_refusal n fs ≡ None → (i : ℕ) → i < length fs → ((get_or fs i (0, 0)).0 ≤ (get_or fs i (0, 0)).1) × ((get_or fs i (0, 0)).1 ≤ n)
frames_fit n [] e i h = absurd (omega arith)
frames_fit n (f ∷ gs) e i h = fit_says n (get_or (f ∷ gs) i (0, 0)) ((fault_says (λ i. unfit n (get_or (f ∷ gs) i (0, 0))) (length (f ∷ gs)) n (unless_says f gs _ (frames_fault n (f ∷ gs)) e)).1 i h)

none_wanted : (n : ℕ) (a b : Bool) → absent_refusal n a b ≡ None → ((a || b) ≡ true) → n ≡ 0
none_wanted n a b e h = grind (arith, nat_tests)

frames_long : (n : ℕ) (fs : List Frame) (b : Bool) → frames_refusal n fs ≡ None → absent_refusal n (true && absent fs) b ≡ None → length fs ≡ n
frames_long n [] b e a = sym (none_wanted n true b a refl)
frames_long n (f ∷ gs) b e a = (fault_says (λ i. unfit n (get_or (f ∷ gs) i (0, 0))) (length (f ∷ gs)) n (unless_says f gs _ (frames_fault n (f ∷ gs)) e)).0

agree : (g h : Group) → differ g h ≡ false → g ≡ h
agree (a, b) (c, d) e = let p : a ≡ c = grind (arith, nat_tests) in let q : b ≡ d = grind (arith, nat_tests) in cc

groups-same : (gs hs : List Group) → groups_fault gs hs ≡ None → gs ≡ hs
groups-same gs hs e =
    let s = fault_says (λ k. differ (get_or gs k (0, 0)) (get_or hs k (0, 0))) (length gs) (length hs) e in
    same_lists gs hs s.0 (λ k d h. get_or_default gs k d (0, 0) h ∙ agree (get_or gs k (0, 0)) (get_or hs k (0, 0)) (s.1 k h) ∙ get_or_default hs k (0, 0) d (omega (arith, s.0)))

or_true : (a : Bool) → (a || true) ≡ true
or_true true = refl
or_true false = refl

groups-all : {V : Type 0} (same : V → V → Bool) (vs : List V) (ms : List Bool) (gs : List Group) (b : Bool) → groups_refusal gs (peers same (cells vs ms)) ≡ None → absent_refusal (length vs) b (true && absent gs) ≡ None → gs ≡ peers same (cells vs ms)
groups-all same vs ms [] b e a = ap (λ ws. peers same (cells ws ms)) (sym (nil_from_length vs (none_wanted (length vs) b true a (or_true b))))
groups-all same vs ms (g ∷ gs) b e a = groups-same (g ∷ gs) (peers same (cells vs ms)) (unless_says g gs _ (groups_fault (g ∷ gs) (peers same (cells vs ms))) e)

pub whole_says : {V : Type 0} (same : V → V → Bool) (wf wg : Bool) (x : Input V) (size : ℕ) → whole_refusal same wf wg x size ≡ None → Accepted same wf wg x size
whole_says same wf wg x size e =
    let p1 = no_first (column_refusal (length x.values) (length x.marks)) _ e in
    let p2 = no_first (frames_refusal (row_count x) x.frames) _ p1.1 in
    let p3 = no_first (groups_refusal x.groups (peers same (cells x.values x.marks))) _ p2.1 in
    let p4 = no_first (absent_refusal (row_count x) (wf && absent x.frames) (wg && absent x.groups)) (output_refusal (row_count x) size) p3.1 in
    let c = column-says (length x.values) (length x.marks) p1.0 in
    record {
      lengths = c.0;
      limited = c.1;
      room = room_says (row_count x) size p4.1;
      framed = λ y. frames_long (row_count x) x.frames (wg && absent x.groups) p2.0 (subst (λ (w : Bool). absent_refusal (row_count x) (w && absent x.frames) (wg && absent x.groups) ≡ None) y p4.0);
      fit = frames_fit (row_count x) x.frames p2.0;
      grouped = λ y. groups-all same x.values x.marks x.groups (wf && absent x.frames) p3.0 (subst (λ (w : Bool). absent_refusal (row_count x) (wf && absent x.frames) (w && absent x.groups) ≡ None) y p4.0);
    }
  where
    room_says : (n size : ℕ) → output_refusal n size ≡ None → n ≤ size
    room_says n size e = grind (arith, nat_tests)
