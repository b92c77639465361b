-- Numbers of rows, refined by one column after the other.
use Rattle.std.proofs.Common.{◌≡◌, ℕ, suc, ◌+◌, ◌-◌, ◌<◌, min, List, [], ◌∷◌, ◌++◌, length, map, take, get_or, subst, refl, sym, ap, ◌∙◌, ⊎_elim, arith}
use Rattle.std.proofs.lemmas.List.{length-map, take_more}
use Rattle.std.specs.Borrow.{Bor}
use Rattle.std.specs.List.{AllZip}
use Rattle.table.specs.declared.content.Content.{Content}
use Rattle.table.specs.Contents.{bytes_of}
use Rattle.table.specs.Columns.{ColumnOf}
use Rattle.table.specs.Names.{IsColumn}
use Rattle.table.specs.TablesLemmas.{column_below}
use Rattle.turns.specs.Numbers.{ByBytes, Ordered, text_cell}
use Rattle.desk.specs.Columns.{ColumnNamed, IsSheet, RefinedBy, Sheet}

-- a column that is found is one of the table
pub inside : (text : List ℕ) (s : Sheet) → IsSheet text s → (name : List ℕ) (k : ℕ) → IsColumn s.names name k → k < s.width
inside text s h name k col =
    let names = ap length h.names in
    let one : length (map (λ (n : Bor (List ℕ)). n.now) s.names) ≡ length s.names = length-map s.names (λ (n : Bor (List ℕ)). n.now) in
    let two : length (map bytes_of h.header) ≡ length h.header = length-map h.header bytes_of in
    let below = col.named.0 in
    let all = h.read.all in
    omega arith

-- its contents are one for each row
pub below_header : (text : List ℕ) (s : Sheet) → IsSheet text s → (k : ℕ) (contents : List Content) → ColumnOf s.width s.fields k contents → length contents ≡ length s.records - 1
below_header text s h k contents of = column_below h.table of

zip_long : {A B : Type 0} (R : A → B → Type 0) (xs : List A) (ys : List B) → AllZip R xs ys → length xs ≡ length ys
zip_long R [] [] h = refl
zip_long R [] (y ∷ ys) h = absurd h
zip_long R (x ∷ xs) [] h = absurd h
zip_long R (x ∷ xs) (y ∷ ys) h = ap suc (zip_long R xs ys h.1)

pub bytes_long : (numbers : List ℕ) (contents : List Content) (refined : List ℕ) → ByBytes numbers contents refined → length refined ≡ min (length numbers) (length contents)
bytes_long numbers contents refined h = h.all ∙ ap (λ (n : ℕ). min (length numbers) n) (length-map contents (λ c. text_cell (bytes_of c)))

pub ordered_long : (numbers : List ℕ) (contents : List Content) (refined : List ℕ) → Ordered numbers contents refined → length refined ≡ min (length numbers) (length contents)
ordered_long numbers contents refined h =
    ⊎_elim
    (λ v. v.by.all ∙ ap (λ (n : ℕ). min (length numbers) n) (sym (zip_long _ contents v.cells v.says)))
    (λ w. bytes_long numbers contents refined w.1)
    h

module _ (by : List ℕ → List Content → List ℕ → Type 0) (s : Sheet) where
  more : (from mid to : List ℕ) (names : List (Bor (List ℕ))) (name : Bor (List ℕ)) (contents : List Content) → RefinedBy by s from names mid → ColumnNamed s name.now contents → by mid contents to → length to ≡ min (length mid) (length contents) → RefinedBy by s from (names ++ name ∷ []) to
  more from mid to [] name contents r col b l = (contents, to, col, subst (λ ns. by ns contents to) r b, subst (λ (ns : List ℕ). length to ≡ min (length ns) (length contents)) r l, refl)
  more from mid to (n ∷ names) name contents r col b l =
      let (c, m, col', b', l', rest) = r in
      (c, m, col', b', l', more m mid to names name contents rest col b l)

  -- with the next column
  pub refined_next : (from mid to : List ℕ) (names : List (Bor (List ℕ))) (i : ℕ) (d : Bor (List ℕ)) (contents : List Content) → i < length names → RefinedBy by s from (take i names) mid → ColumnNamed s (get_or names i d).now contents → by mid contents to → length to ≡ min (length mid) (length contents) → RefinedBy by s from (take (i + 1) names) to
  refined_next from mid to names i d contents h r col b l = subst (λ ns. RefinedBy by s from ns to) (sym (take_more names i d h)) (more from mid to (take i names) (get_or names i d) contents r col b l)

  -- as many numbers as rows, where each column has as many contents
  pub refined_long : (n : ℕ) (text : List ℕ) → IsSheet text s → n ≡ length s.records - 1 → (from to : List ℕ) (names : List (Bor (List ℕ))) → length from ≡ n → RefinedBy by s from names to → length to ≡ n
  refined_long n text h e from to [] l r = ap length r ∙ l
  refined_long n text h e from to (name ∷ names) l r =
      let (contents, mid, col, b, m, rest) = r in
      let c : length contents ≡ n = below_header text s h col.column contents col.of ∙ sym e in
      let k : length mid ≡ n = omega (arith, m, l, c) in
      refined_long n text h e mid to names k rest
