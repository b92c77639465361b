-- What RANK and DENSE_RANK hold, one row on.
use Rattle.std.specs.Prelude.{◌≡◌, ℕ, zero, suc, ◌+◌, ◌<◌, ◌≤◌, refl, max, Bool, true, false, T, List, [], ◌∷◌, length, get_or, None, Option, slice_index_or}
use Rattle.std.proofs.Common.{⊎_elim, arith, add-one}
use Rattle.std.proofs.lemmas.Bool.{cases_lt, lt-ltb, le-ltb}
use Rattle.column.specs.Cells.{same_cell}
use Rattle.column.specs.Refusal.{row_limit}
use Rattle.partition.specs.Peers.{Group, peers, IsGroup, Tiled}
use Rattle.partition.proofs.Groups.{tiled}
use Rattle.rank.specs.Groups.{group_number, group_at, Covers}
use Rattle.rank.specs.Laws.{GroupLaw}
use Rattle.rank.specs.Ranks.{state_at, one_more, state_after}
use Rattle.rank.proofs.Covers.{past_last, Placed, placed, tiled_covers}

-- the group of row i holds it
record Lies (gs : List Group) (i k : ℕ) : Type 0 where
  counted : k < length gs
  from : (get_or gs k (0, 0)).0 ≤ i
  below : i < (get_or gs k (0, 0)).1

lies : (gs : List Group) (s n i : ℕ) → Covers s gs n → s ≤ i → i < n → Lies gs i (group_number gs i)
lies [] s n i c h l = absurd (omega (arith, c))
lies (g ∷ gs) s n i c h l =
    ⊎_elim
    (λ t. rw (lt-ltb i g.1 t) (record { counted = omega arith; from = omega (arith, c.0); below = t }))
    (λ t. let r = lies gs g.1 n i c.2 t l in rw (le-ltb i g.1 t) (record { counted = omega (arith, r.counted); from = r.from; below = r.below }))
    (cases_lt i g.1)

module _ {V : Type 0} (same : V → V → Bool) (self : (x : V) → T (same x x)) (rows : List (Option V)) where
  tile_at : (gs : List Group) (s k : ℕ) → Tiled same rows s gs → k < length gs → IsGroup same rows (get_or gs k (0, 0)).0 (get_or gs k (0, 0)).1
  tile_at [] s k t h = absurd (omega arith)
  tile_at (g ∷ gs) s zero t h = t.1
  tile_at (g ∷ gs) s (suc k) t h = tile_at gs g.1 k t.2 (omega arith)

  abbrev groups : List Group
  groups = peers same rows

  covers : Covers 0 groups (length rows)
  covers = tiled_covers same rows groups 0 (tiled same self rows)

  place : (k : ℕ) → k < length groups → Placed groups 0 (length rows) k
  place k h = placed groups 0 (length rows) k covers h

  lie : (i : ℕ) → i < length rows → Lies groups i (group_number groups i)
  lie i h = lies groups 0 (length rows) i covers (omega arith) h

  -- a row lies in its group
  pub group_law : GroupLaw same rows
  group_law = record {
    group = λ i h. tile_at groups 0 (group_number groups i) (tiled same self rows) (lie i h).counted;
    begins = λ i h. (lie i h).from;
    ends = λ i h. (lie i h).below;
  }

  -- the first row's group
  pub first_number : 0 < length rows → group_number groups 0 ≡ 0
  first_number h = let a = lie 0 h in omega (arith, (place (group_number groups 0) a.counted).number, a.from)

  pub first_row : 0 < length rows → (group_at groups 0).0 ≡ 0
  first_row h = omega (arith, (lie 0 h).from)

  module _ (j : ℕ) (h : suc j < length rows) where
    abbrev k : ℕ
    k = group_number groups j

    abbrev g : Group
    g = group_at groups j

    at : Lies groups j k
    at = lie j (omega arith)

    -- row j + 1 lies in the group of row j
    pub same_number : suc j < g.1 → group_number groups (suc j) ≡ k
    same_number l = (place k at.counted).holds (suc j) (omega (arith, at.from)) l

    -- or opens the next
    pub next_number : g.1 ≡ suc j → (group_number groups (suc j) ≡ suc k) × ((get_or groups (suc k) (0, 0)).0 ≡ suc j)
    next_number q =
        let p = place k at.counted in
        let z = past_last groups (length rows) in
        let more : suc k < length groups = grind (arith, p.ends, at.counted) in
        let r = place (suc k) more in
        let b : (get_or groups (suc k) (0, 0)).0 ≡ suc j = omega (arith, r.begins, p.ends) in
        (r.holds (suc j) (omega arith) (omega (arith, r.nonempty)), b)

    -- by whether it is the same as the group's first
    pub goes_on : suc j < g.1 → same_cell same (slice_index_or rows g.0 None) (slice_index_or rows (suc j) None) ≡ true
    goes_on l = (group_law.group j (omega arith)).alike (suc j) (omega (arith, at.from)) l

    pub goes_off : g.1 ≡ suc j → same_cell same (slice_index_or rows g.0 None) (slice_index_or rows (suc j) None) ≡ false
    goes_off q = rw (← q) ((group_law.group j (omega arith)).stops (omega arith))

  module _ (j : ℕ) (h : suc j < length rows) (m : suc j < row_limit) where
    -- the group goes on
    continues : suc j < (group_at groups j).1 → state_after same (state_at same rows (suc j)) (slice_index_or rows (suc j) None) (suc j) ≡ state_at same rows (suc j + 1)
    continues l =
        let x : max (suc j) (suc j + 1) ≡ suc (suc j) = omega arith in
        rw (goes_on j h l, x, add-one (suc j), same_number j h l) refl

    -- the next one opens
    opened : (group_at groups j).1 ≡ suc j → state_after same (state_at same rows (suc j)) (slice_index_or rows (suc j) None) (suc j) ≡ state_at same rows (suc j + 1)
    opened q =
        let k : ℕ = group_number groups j in
        let a = lie j (omega arith) in
        let r = next_number j h q in
        let x : max (suc j) (suc j + 1) ≡ suc (suc j) = omega arith in
        let y : one_more (k + 1) ≡ suc k + 1 = omega (arith, (place k a.counted).number, a.from) in
        rw (goes_off j h q, x, y, add-one (suc j), r.0, r.1) refl

  -- what is held at a row, with the row, is held at the next
  pub state_on : (i : ℕ) → i < length rows → i < row_limit → state_after same (state_at same rows i) (slice_index_or rows i None) i ≡ state_at same rows (i + 1)
  state_on zero h m = rw (first_row h, first_number h) refl
  state_on (suc j) h m =
      let a = lie j (omega arith) in
      ⊎_elim (λ l. continues j h m l) (λ l. opened j h m (omega (arith, a.below))) (cases_lt (suc j) (group_at groups j).1)
