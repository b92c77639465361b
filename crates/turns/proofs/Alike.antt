-- Rows that have one number.
use Rattle.std.proofs.Common.{◌≡◌, ℕ, List, [], ◌∷◌, length, map, get_or, None, refl, sym, ap, ◌∙◌, arith}
use Rattle.std.proofs.lemmas.Bool.Decides.{nat_tests}
use Rattle.std.proofs.lemmas.Cmp.{nat_cmp_total, nat_list_cmp_total, tied_itself}
use Rattle.std.proofs.lemmas.List.{get_or-map, length-map}
use Rattle.std.specs.Cmp.Lexicographic.{slice_cmp}
use Rattle.std.specs.Ordering.{nat_cmp, ordering_then}
use Rattle.std.specs.declared.cmp.Ordering.{Ordering}
use Rattle.std.specs.declared.cmp.Ordering.TheVariants.{Less, Equal, Greater}
use Rattle.table.specs.Contents.{bytes_of}
use Rattle.table.specs.declared.content.Content.{Content}
use Rattle.turns.specs.Numbers.{Alike, ByBytes, null_last, text_cell}

one_number : (a b : ℕ) → nat_cmp a b ≡ Equal → a ≡ b
one_number a b e = grind (arith, nat_tests)

both_equal : (o p : Ordering) → ordering_then o p ≡ Equal → (o ≡ Equal) × (p ≡ Equal)
both_equal Less p e = absurd (cc)
both_equal Equal p e = (refl, e)
both_equal Greater p e = absurd (cc)

same_bytes : (xs ys : List ℕ) → slice_cmp nat_cmp xs ys ≡ Equal → xs ≡ ys
same_bytes [] [] e = refl
same_bytes [] (y ∷ ys) e = absurd (cc)
same_bytes (x ∷ xs) [] e = absurd (cc)
same_bytes (x ∷ xs) (y ∷ ys) e =
    let both = both_equal (nat_cmp x y) (slice_cmp nat_cmp xs ys) e in
    let head : x ≡ y = one_number x y both.0 in
    let tail : xs ≡ ys = same_bytes xs ys both.1 in
    rw (head, tail) refl

same_texts : (xs ys : List ℕ) → null_last (slice_cmp nat_cmp) (text_cell xs) (text_cell ys) ≡ Equal → xs ≡ ys
same_texts [] [] e = refl
same_texts [] (y ∷ ys) e = absurd (cc)
same_texts (x ∷ xs) [] e = absurd (cc)
same_texts (x ∷ xs) (y ∷ ys) e = same_bytes (x ∷ xs) (y ∷ ys) e

tied_texts : (xs : List ℕ) → null_last (slice_cmp nat_cmp) (text_cell xs) (text_cell xs) ≡ Equal
tied_texts [] = refl
tied_texts (x ∷ xs) = tied_itself nat_list_cmp_total (x ∷ xs)

pub alike : (numbers : List ℕ) (contents : List Content) (refined : List ℕ) → ByBytes numbers contents refined → Alike numbers contents refined
alike numbers contents refined r i j d hi hj =
    let cells = map (λ c. text_cell (bytes_of c)) contents in
    let long : length cells ≡ length contents = length-map contents (λ c. text_cell (bytes_of c)) in
    let ci : get_or cells i None ≡ text_cell (bytes_of (get_or contents i d)) = get_or-map (λ c. text_cell (bytes_of c)) contents i d None (omega (arith, r.all, long)) in
    let cj : get_or cells j None ≡ text_cell (bytes_of (get_or contents j d)) = get_or-map (λ c. text_cell (bytes_of c)) contents j d None (omega (arith, r.all, long)) in
    let compared : nat_cmp (get_or refined i 0) (get_or refined j 0) ≡ ordering_then (nat_cmp (get_or numbers i 0) (get_or numbers j 0)) (null_last (slice_cmp nat_cmp) (text_cell (bytes_of (get_or contents i d))) (text_cell (bytes_of (get_or contents j d)))) = r.each i j hi hj ∙ ap (λ x. ordering_then (nat_cmp (get_or numbers i 0) (get_or numbers j 0)) (null_last (slice_cmp nat_cmp) x (get_or cells j None))) ci ∙ ap (λ y. ordering_then (nat_cmp (get_or numbers i 0) (get_or numbers j 0)) (null_last (slice_cmp nat_cmp) (text_cell (bytes_of (get_or contents i d))) y)) cj in (
      (λ e.
          let tied : nat_cmp (get_or refined i 0) (get_or refined j 0) ≡ Equal = ap (nat_cmp (get_or refined i 0)) (sym e) ∙ tied_itself nat_cmp_total (get_or refined i 0) in
          let both = both_equal _ _ (sym compared ∙ tied) in
          (one_number _ _ both.0, same_texts _ _ both.1)),
      (λ e.
          let n : nat_cmp (get_or numbers i 0) (get_or numbers j 0) ≡ Equal = ap (nat_cmp (get_or numbers i 0)) (sym e.0) ∙ tied_itself nat_cmp_total (get_or numbers i 0) in
          let b : null_last (slice_cmp nat_cmp) (text_cell (bytes_of (get_or contents i d))) (text_cell (bytes_of (get_or contents j d))) ≡ Equal = ap (λ bs. null_last (slice_cmp nat_cmp) (text_cell (bytes_of (get_or contents i d))) (text_cell bs)) (sym e.1) ∙ tied_texts (bytes_of (get_or contents i d)) in
          one_number _ _ (compared ∙ rw (n, b) refl)),
    )
