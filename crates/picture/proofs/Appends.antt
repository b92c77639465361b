use Rattle.std.proofs.Common.{◌≡◌, ℕ, ◌+◌, ◌<◌, List, [], ◌∷◌, ◌++◌, length, get_or, drop, append_assoc, add-one, ap, ◌∙◌, sym, drop-cons}
use Rattle.picture.specs.declared.row.Row.{Row}
use Rattle.picture.specs.Picture.{row_text, rows_text}

-- three texts behind one another, from nothing on
pub three_appended : (t0 t1 t2 t3 a a' b c : List ℕ) → t0 ≡ [] → t1 ≡ t0 ++ a → t2 ≡ t1 ++ b → t3 ≡ t2 ++ c → a ≡ a' → t3 ≡ a' ++ (b ++ c)
three_appended t0 t1 t2 t3 a a' b c e0 e1 e2 e3 same = rw (e3, e2, e1, e0, same) (append_assoc a' b c)

-- five texts behind one another
pub five_appended : (t0 t1 t2 t3 t4 t5 a b c d e : List ℕ) → t1 ≡ t0 ++ a → t2 ≡ t1 ++ b → t3 ≡ t2 ++ c → t4 ≡ t3 ++ d → t5 ≡ t4 ++ e → t5 ≡ t0 ++ (a ++ (b ++ (c ++ (d ++ e))))
five_appended t0 t1 t2 t3 t4 t5 a b c d e e1 e2 e3 e4 e5 = rw (e5, e4, e3, e2, e1) (append_assoc (t0 ++ a ++ b ++ c) d e ∙ append_assoc (t0 ++ a ++ b) c (d ++ e) ∙ append_assoc (t0 ++ a) b (c ++ (d ++ e)) ∙ append_assoc t0 a (b ++ (c ++ (d ++ e))))

-- one row more behind those so far
pub row_more : (t new whole : List ℕ) (i : ℕ) (rs : List Row) (d : Row) → i < length rs → new ≡ t ++ row_text i (get_or rs i d) → t ++ rows_text i (drop i rs) ≡ whole → new ++ rows_text (i + 1) (drop (i + 1) rs) ≡ whole
row_more t new whole i rs d lt e h =
    let left : drop i rs ≡ get_or rs i d ∷ drop (i + 1) rs = rw (add-one, drop-cons rs i d) in
    let row = row_text i (get_or rs i d) in
    let rest = rows_text (i + 1) (drop (i + 1) rs) in
    ap (λ x. x ++ rest) e ∙ append_assoc t row rest ∙ ap (λ xs. t ++ rows_text i xs) (sym left) ∙ h
