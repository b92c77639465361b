-- Comparisons of rows and of their keys.
use Rattle.std.proofs.Common.{◌≡◌, ℕ, ◌<◌, Bool, true, List, [], ◌∷◌, length, map, min, get_or, Option, Some, None, option_map, Bor, refl, sym, ap, ◌∙◌, arith}
use Rattle.std.proofs.lemmas.Cmp.{tied_itself}
use Rattle.std.proofs.lemmas.List.{get_or-map, length-map}
use Rattle.std.specs.Cmp.{IsTotalOrder}
use Rattle.std.specs.Cmp.Lexicographic.{slice_cmp}
use Rattle.std.specs.Ordering.{bool_cmp, nat_cmp, ordering_then}
use Rattle.std.specs.declared.cmp.Ordering.{Ordering}
use Rattle.std.specs.declared.cmp.Ordering.TheVariants.{Less, Equal, Greater}
use Rattle.table.specs.Contents.{bytes_of}
use Rattle.table.specs.declared.content.Content.{Content}
use Rattle.turns.specs.Keys.{CellKeys, Numbered, TextCells, cell_key}
use Rattle.turns.specs.Numbers.{ByBytes, Refined, null_last, text_cell}

then_then : (o p q : Ordering) → ordering_then (ordering_then o p) q ≡ ordering_then o (ordering_then p q)
then_then Less p q = refl
then_then Equal p q = refl
then_then Greater p q = refl

pub lex : {T : Type 0} → (T → T → Ordering) → ℕ × Bool × T → ℕ × Bool × T → Ordering
lex cmp x y = ordering_then (ordering_then (nat_cmp x.0 y.0) (bool_cmp x.1 y.1)) (cmp x.2 y.2)

module _ {T : Type 0} {cmp : T → T → Ordering} (o : IsTotalOrder cmp) (null : T) where
  lex_cells : (a b : ℕ) (x y : Option T) → lex cmp (cell_key null a x) (cell_key null b y) ≡ ordering_then (nat_cmp a b) (null_last cmp x y)
  unfolding lex
  lex_cells a b None None = then_then (nat_cmp a b) Equal (cmp null null) ∙ ap (ordering_then (nat_cmp a b)) (tied_itself o null)
  lex_cells a b None (Some y) = then_then (nat_cmp a b) Greater (cmp null y)
  lex_cells a b (Some x) None = then_then (nat_cmp a b) Less (cmp x null)
  lex_cells a b (Some x) (Some y) = then_then (nat_cmp a b) Equal (cmp x y)

  pub refined_cells : (numbers : List ℕ) (cells : List (Option T)) (keys : List (ℕ × Bool × T)) (refined : List ℕ) → CellKeys null numbers cells keys → Numbered (λ x y. ordering_then (ordering_then (nat_cmp x.0 y.0) (bool_cmp x.1 y.1)) (cmp x.2 y.2)) keys refined → Refined cmp numbers cells refined
  unfolding lex
  refined_cells numbers cells keys refined k n = record {
    all = n.all ∙ k.all;
    each = λ i j hi hj.
        let d : ℕ × Bool × T = (0, true, null) in
        let li : i < length keys = omega (arith, n.all) in
        let lj : j < length keys = omega (arith, n.all) in
        let both : lex cmp (get_or keys i d) (get_or keys j d) ≡ lex cmp (cell_key null (get_or numbers i 0) (get_or cells i None)) (cell_key null (get_or numbers j 0) (get_or cells j None)) = rw (k.each i d li, k.each j d lj) refl in
        n.each i j d li lj ∙ both ∙ lex_cells (get_or numbers i 0) (get_or numbers j 0) (get_or cells i None) (get_or cells j None);
    low = λ i hi. omega (arith, n.low i (omega (arith, n.all)), n.all);
  }

texts : (x y : Option (Bor (List ℕ))) → null_last (λ a b. slice_cmp nat_cmp a.now b.now) x y ≡ null_last (slice_cmp nat_cmp) (option_map (λ b. b.now) x) (option_map (λ b. b.now) y)
texts None None = refl
texts None (Some y) = refl
texts (Some x) None = refl
texts (Some x) (Some y) = refl

text_at : (contents : List Content) (cells : List (Option (Bor (List ℕ)))) (i : ℕ) → TextCells contents cells → i < length cells → option_map (λ b. b.now) (get_or cells i None) ≡ get_or (map (λ c. text_cell (bytes_of c)) contents) i None
text_at [] cells i t h = absurd (omega (arith, t.all))
text_at (c ∷ cs) cells i t h = t.each i c h ∙ sym (get_or-map (λ c. text_cell (bytes_of c)) (c ∷ cs) i c None (omega (arith, t.all)))

pub refined_texts : (numbers : List ℕ) (contents : List Content) (cells : List (Option (Bor (List ℕ)))) (refined : List ℕ) → TextCells contents cells → Refined (λ a b. slice_cmp nat_cmp a.now b.now) numbers cells refined → ByBytes numbers contents refined
refined_texts numbers contents cells refined t r = record {
  all = r.all ∙ ap (min (length numbers)) (t.all ∙ sym (length-map contents (λ c. text_cell (bytes_of c))));
  each = λ i j hi hj.
      let li : i < length cells = omega (arith, r.all) in
      let lj : j < length cells = omega (arith, r.all) in
      let both : null_last (slice_cmp nat_cmp) (option_map (λ b. b.now) (get_or cells i None)) (option_map (λ b. b.now) (get_or cells j None)) ≡ null_last (slice_cmp nat_cmp) (get_or (map (λ c. text_cell (bytes_of c)) contents) i None) (get_or (map (λ c. text_cell (bytes_of c)) contents) j None) = rw (text_at contents cells i t li, text_at contents cells j t lj) refl in
      r.each i j hi hj ∙ ap (ordering_then (nat_cmp (get_or numbers i 0) (get_or numbers j 0))) (texts (get_or cells i None) (get_or cells j None) ∙ both);
  low = r.low;
}
