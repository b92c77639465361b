-- The group of a row begins where it does whatever rows come later.
use Rattle.std.specs.Prelude.{◌≡◌, ℕ, zero, suc, ◌+◌, ◌<◌, ◌≤◌, Bool, List, [], ◌∷◌, length, take, Option, refl}
use Rattle.std.proofs.Common.{sym, ◌∙◌, ap, ⊎_elim, arith}
use Rattle.std.proofs.lemmas.List.{length-take}
use Rattle.std.proofs.lemmas.Bool.{cases_Bool, cases_lt, lt-ltb, le-ltb}
use Rattle.column.specs.Cells.{same_cell}
use Rattle.partition.specs.Peers.{Group, continued, peers}
use Rattle.rank.specs.Groups.{group_number, group_at}

-- in both lists the group of row i has the same number and the same first row
pub record AlikeAt (gs hs : List Group) (i : ℕ) : Type 0 where
  pub number : group_number gs i ≡ group_number hs i
  pub first : (group_at gs i).0 ≡ (group_at hs i).0

-- one group more in front of both
behind : (g : Group) (gs hs : List Group) (i : ℕ) → (g.1 ≤ i → AlikeAt gs hs i) → AlikeAt (g ∷ gs) (g ∷ hs) i
behind g gs hs i a =
    ⊎_elim
    (λ l. let t = lt-ltb i g.1 l in record { number = rw t refl; first = rw t refl })
    (λ l. let t = le-ltb i g.1 l in record { number = rw t (ap suc (a l).number); first = rw t (a l).first })
    (cases_lt i g.1)

module _ {V : Type 0} (same : V → V → Bool) where
  -- a row before row j lies in the group so far
  so_far : (l : List (Option V)) (c : Option V) (s j i : ℕ) → i < j → (group_number (continued same c s j l) i ≡ 0) × ((group_at (continued same c s j l) i).0 ≡ s)
  so_far [] c s j i h = rw (lt-ltb i j h) (refl, refl)
  so_far (d ∷ ds) c s j i h =
      ⊎_elim
      (λ y. rw y (so_far ds c s (j + 1) i (omega arith)))
      (λ n. rw n (rw (lt-ltb i j h) (refl, refl)))
      (cases_Bool (same_cell same c d))

  front : (l m : List (Option V)) (c : Option V) (s j a i : ℕ) → take a l ≡ take a m → i < j + a → AlikeAt (continued same c s j l) (continued same c s j m) i
  front l m c s j zero i e h =
      let x = so_far l c s j i (omega arith) in
      let y = so_far m c s j i (omega arith) in
      record { number = x.0 ∙ sym y.0; first = x.1 ∙ sym y.1 }
  front [] [] c s j (suc a) i e h = record { number = refl; first = refl }
  front [] (d ∷ m) c s j (suc a) i e h = absurd (cc)
  front (d ∷ l) [] c s j (suc a) i e h = absurd (cc)
  front (d ∷ l) (d' ∷ m) c s j (suc a) i e h =
      let q : d ≡ d' = cc in
      let r : take a l ≡ take a m = cc in
      rw (← q)
      (⊎_elim
      (λ y. rw y (front l m c s (j + 1) a i r (omega arith)))
      (λ n. rw n (behind (s, j) (continued same d j (j + 1) l) (continued same d j (j + 1) m) i (λ u. front l m d j (j + 1) a i r (omega arith))))
      (cases_Bool (same_cell same c d)))

  -- rows that share their first a
  pub peers_front : (l m : List (Option V)) (a i : ℕ) → take a l ≡ take a m → i < length (take a l) → AlikeAt (peers same l) (peers same m) i
  peers_front l m zero i e h = absurd (omega arith)
  peers_front [] m (suc a) i e h = absurd (omega arith)
  peers_front (c ∷ l) [] (suc a) i e h = absurd (cc)
  peers_front (c ∷ l) (d ∷ m) (suc a) i e h =
      let q : c ≡ d = cc in
      let r : take a l ≡ take a m = cc in
      rw (← q) (front l m c 0 1 a i r (omega (arith, length-take a l)))
