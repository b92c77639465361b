-- The cells of contents, one after the other.
use Rattle.std.proofs.Common.{◌≡◌, ℕ, ◌+◌, ◌<◌, List, [], ◌∷◌, ◌++◌, length, take, get_or, Option, None, subst, sym, ap, ◌∙◌, inr, arith}
use Rattle.std.proofs.lemmas.List.{length-take-le, length_push}
use Rattle.table.specs.declared.content.Content.{Content}
use Rattle.table.specs.Contents.{bytes_of}
use Rattle.desk.specs.declared.refusal.Refusal.{Refusal}
use Rattle.desk.specs.Cells.{AreCells, IsCell, NoCell, NoCells}
use Rattle.desk.proofs.Pairs.{pairs_more}

module _ {V : Type 0} (says : List ℕ → V → Type 0) where
  -- with the next
  pub one_read : (contents : List Content) (cells more : List (Option V)) (n : ℕ) (content : Content) (cell : Option V) → AreCells says (take n contents) cells → n < length contents → ((d : Content) → get_or contents n d ≡ content) → IsCell says (bytes_of content) cell → more ≡ cells ++ cell ∷ [] → AreCells says (take (n + 1) contents) more
  one_read contents cells more n content cell a l is said e =
      let m : length (take n contents) ≡ n = length-take-le n contents (omega arith) in
      let m' : length (take (n + 1) contents) ≡ n + 1 = length-take-le (n + 1) contents (omega arith) in
      let many : length cells ≡ n = a.as_many ∙ m in
      let long : length more ≡ length cells + 1 = ap length e ∙ length_push cells cell in
      record {
        as_many = omega arith;
        each = λ k d h. subst (λ xs. IsCell says (bytes_of (get_or (take (n + 1) contents) k d)) (get_or xs k None)) (sym e) (pairs_more (λ k c x. IsCell says (bytes_of c) x) contents cells content cell None n many (λ k d h. a.each k d (omega arith)) is said k d (omega arith));
      }

  -- the first that says no value
  pub first_bad : (contents : List Content) (cells : List (Option V)) (n row column : ℕ) (content : Content) (r : Refusal) → AreCells says (take n contents) cells → n < length contents → ((d : Content) → get_or contents n d ≡ content) → row ≡ n + 1 → NoCell (bytes_of content) row column r → NoCells says contents column r
  first_bad contents cells n row column content r a l is e no_cell =
      inr (record { place = n; within = l; cells = cells; before = a; here = λ d. subst (λ c. NoCell (bytes_of c) (n + 1) column r) (sym (is d)) (subst (λ (k : ℕ). NoCell (bytes_of content) k column r) e no_cell) })
