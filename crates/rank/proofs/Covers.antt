-- Groups that cover the rows, one by one.
use Rattle.std.specs.Prelude.{◌≡◌, ℕ, zero, suc, ◌+◌, ◌<◌, ◌≤◌, Bool, List, [], ◌∷◌, Option, length, get_or, slice_index_or, refl}
use Rattle.std.proofs.Common.{sym, ap, arith}
use Rattle.std.proofs.lemmas.Bool.{lt-ltb, le-ltb}
use Rattle.column.specs.Refusal.{row_limit}
use Rattle.partition.specs.Peers.{Group, Tiled}
use Rattle.rank.specs.Groups.{group_number, Covers, Within}

-- the row at which group k begins; past the last group n
abbrev pub start_at : List Group → ℕ → ℕ → ℕ
start_at [] n k = n
start_at (g ∷ gs) n zero = g.0
start_at (g ∷ gs) n (suc k) = start_at gs n k

pub covers_below : (gs : List Group) (s n : ℕ) → Covers s gs n → s ≤ n
covers_below [] s n c = omega (arith, c)
covers_below (g ∷ gs) s n c = omega (arith, c.0, c.1, covers_below gs g.1 n c.2)

pub starts : (gs : List Group) (s n : ℕ) → Covers s gs n → start_at gs n 0 ≡ s
starts [] s n c = sym c
starts (g ∷ gs) s n c = c.0

pub past_last : (gs : List Group) (n : ℕ) → start_at gs n (length gs) ≡ n
past_last [] n = refl
past_last (g ∷ gs) n = past_last gs n

-- group k of groups that cover the rows from row s on
pub record Placed (gs : List Group) (s n k : ℕ) : Type 0 where
  pub begins : (get_or gs k (0, 0)).0 ≡ start_at gs n k
  pub ends : (get_or gs k (0, 0)).1 ≡ start_at gs n (suc k)
  pub number : s + k ≤ (get_or gs k (0, 0)).0
  pub nonempty : (get_or gs k (0, 0)).0 < (get_or gs k (0, 0)).1
  pub inside : (get_or gs k (0, 0)).1 ≤ n
  pub holds : (i : ℕ) → (get_or gs k (0, 0)).0 ≤ i → i < (get_or gs k (0, 0)).1 → group_number gs i ≡ k

pub placed : (gs : List Group) (s n k : ℕ) → Covers s gs n → k < length gs → Placed gs s n k
placed [] s n k c h = absurd (omega arith)
placed (g ∷ gs) s n zero c h = record {
  begins = refl;
  ends = sym (starts gs g.1 n c.2);
  number = omega (arith, c.0);
  nonempty = c.1;
  inside = covers_below gs g.1 n c.2;
  holds = λ i l u. rw (lt-ltb i g.1 u) refl;
}
placed (g ∷ gs) s n (suc k) c h =
    let p = placed gs g.1 n k c.2 (omega arith) in
    record {
      begins = p.begins;
      ends = p.ends;
      number = omega (arith, c.0, c.1, p.number);
      nonempty = p.nonempty;
      inside = p.inside;
      holds = λ i l u. rw (le-ltb i g.1 (omega (arith, p.number))) (ap suc (p.holds i l u));
    }

-- what the answer of a group needs of it
pub within : (gs : List Group) (n k : ℕ) → Covers 0 gs n → n ≤ row_limit → k < length gs → Within k (slice_index_or gs k (0, 0)) n
within gs n k c m h = let p = placed gs 0 n k c h in record { number = omega (arith, p.number); nonempty = p.nonempty; inside = p.inside; limited = m }

-- groups that tile the rows cover them
pub tiled_covers : {V : Type 0} (same : V → V → Bool) (cs : List (Option V)) (gs : List Group) (s : ℕ) → Tiled same cs s gs → Covers s gs (length cs)
tiled_covers same cs [] s t = t
tiled_covers same cs (g ∷ gs) s t = (t.0, t.1.nonempty, tiled_covers same cs gs g.1 t.2)
