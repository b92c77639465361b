-- One answer more.
use Rattle.std.proofs.Common.{◌≡◌, ℕ, zero, suc, ◌+◌, ◌<◌, ◌≤◌, sym, refl, ap, ◌∙◌, add-one, arith}
use Rattle.column.specs.Slots.{written, OutputLaws}

pub written_none : {S A : Type 0} (put : S → ℕ → A → S) (f : ℕ → A) (s : S) → written put f s 0 ≡ s
unfolding written
written_none put f s = refl

pub written_next : {S A : Type 0} (put : S → ℕ → A → S) (f : ℕ → A) (s : S) (n : ℕ) → written put f s (n + 1) ≡ put (written put f s n) n (f n)
unfolding written
written_next put f s n = rw add-one refl

-- answers that agree row by row are written alike
pub written_same : {S A : Type 0} (put : S → ℕ → A → S) (f g : ℕ → A) (s : S) (n : ℕ) → ((k : ℕ) → k < n → f k ≡ g k) → written put f s n ≡ written put g s n
unfolding written
written_same put f g s zero h = refl
written_same {S} put f g s (suc n) h =
    ap (λ (t : S). put t n (f n)) (written_same put f g s n (λ k l. h k (omega arith))) ∙ ap (put (written put g s n) n) (h n (omega arith))

-- an output after i of n answers
pub record Written {X S A : Type 0} (slots : X → S) (stored : S → ℕ → A → S) (size : S → ℕ) (place : X → X → Type 0) (answers : ℕ → A) (n i : ℕ) (before after : X) : Type 0 where
  pub holds : slots after ≡ written stored answers (slots before) i
  pub room : n ≤ size (slots after)
  pub stays : place before after

module _ {X S A : Type 0} (slots : X → S) (stored : S → ℕ → A → S) (size : S → ℕ) (place : X → X → Type 0) (laws : OutputLaws stored size place) (answers : ℕ → A) where
  pub none_written : (n : ℕ) (x : X) → n ≤ size (slots x) → Written slots stored size place answers n 0 x x
  none_written n x h = record { holds = sym (written_none stored answers (slots x)); room = h; stays = laws.refl x }

  pub one_more : (n i : ℕ) (x y z : X) (a : A) → Written slots stored size place answers n i x y → slots z ≡ stored (slots y) i a → place y z → a ≡ answers i → Written slots stored size place answers n (i + 1) x z
  one_more n i x y z a w s p e = record {
    holds = s ∙ ap (λ (t : S). stored t i a) w.holds ∙ ap (stored (written stored answers (slots x) i) i) e ∙ sym (written_next stored answers (slots x) i);
    room = omega (arith, ap size s, laws.size_stays (slots y) i a, w.room);
    stays = laws.trans x y z w.stays p;
  }
