-- A list that is shown is read back, and one that is read is what the text shows.
use Rattle.std.proofs.Common.{◌≡◌, ℕ, Bool, true, false, T, List, [], ◌∷◌, ◌++◌, codes, slice_index, Result, Ok, sym, ap, ◌∙◌, subst, arith}
use Rattle.std.specs.Prelude.{⊤}
use Rattle.std.proofs.lemmas.List.{append_assoc}
use Rattle.std.proofs.lemmas.Option.{get_or_from_slice_get}
use Rattle.lines.specs.Back.{Ends, ReadsBack}
use Rattle.lines.specs.Cursors.{ahead}
use Rattle.lines.specs.Fits.{ListFits}
use Rattle.lines.specs.Reads.{ReadsItems}
use Rattle.lines.specs.Texts.{joined, rest_text}
use Rattle.lines.specs.declared.cursor.Cursor.{Cursor}
use Rattle.lines.specs.declared.stop.Bad.{Bad}
use Rattle.lines.proofs.Numbers.{next_byte}

module _ {V : Type 0} (Fits : V → Type 0) (text : V → List ℕ) where
  -- the items read and those that stand at the place of a, one or more, are all
  abbrev pub Left : List V → List V → Cursor → List ℕ → Type 0
  Left all items a rest = (x : V) × (more : List V) × (all ≡ items ++ (x ∷ more)) × ListFits Fits (x ∷ more) × (ahead a ≡ joined text (x ∷ more) ++ (codes "]" ++ rest))

  item_ends : (more : List V) (rest : List ℕ) → Ends (rest_text text more ++ (codes "]" ++ rest))
  item_ends [] rest = λ h. omega (arith, h)
  item_ends (z ∷ zs) rest = λ h. omega (arith, h)

  pub item_read : (all items : List V) (a b : Cursor) (r : Result V Bad) (rest : List ℕ) → ((x : V) → Fits x → ReadsBack (text x) x a r b) → (l : Left all items a rest) → (r ≡ Ok l.0) × (ahead b ≡ rest_text text l.1 ++ (codes "]" ++ rest))
  item_read all items a b r rest back l =
      back l.0 l.3.0 (rest_text text l.1 ++ (codes "]" ++ rest)) (l.4 ∙ append_assoc (text l.0) (rest_text text l.1) (codes "]" ++ rest)) (item_ends l.1 rest)

  pub comma_read : (all items pushed : List V) (x : V) (more : List V) (b c : Cursor) (took : Bool) (rest : List ℕ) → took ≡ true → (T took → slice_index b.text.now b.at ≡ 44) → ((t : List ℕ) → ahead b ≡ 44 ∷ t → T took × (ahead c ≡ t)) → pushed ≡ items ++ (x ∷ []) → all ≡ items ++ (x ∷ more) → ListFits Fits (x ∷ more) → ahead b ≡ rest_text text more ++ (codes "]" ++ rest) → Left all pushed c rest
  comma_read all items pushed x [] b c took rest taken found back push split fits e =
      let here = get_or_from_slice_get b.text.now b.at 93 0 (next_byte b.text.now b.at 93 rest e).0 in
      absurd (omega (arith, here, found (subst T (sym taken) tt)))
  comma_read all items pushed x (z ∷ zs) b c took rest taken found back push split fits e =
      (z, zs, split ∙ sym (ap (λ l. l ++ (z ∷ zs)) push ∙ append_assoc items (x ∷ []) (z ∷ zs)), fits.1, (back _ e).1)

  pub end_read : (all items : List V) (x : V) (more : List V) (b c : Cursor) (took : Bool) (rest : List ℕ) → took ≡ false → ((t : List ℕ) → ahead b ≡ 44 ∷ t → T took × (ahead c ≡ t)) → all ≡ items ++ (x ∷ more) → ahead b ≡ rest_text text more ++ (codes "]" ++ rest) → (all ≡ items ++ (x ∷ [])) × (ahead b ≡ codes "]" ++ rest)
  end_read all items x [] b c took rest untaken back split e = (split, e)
  end_read all items x (z ∷ zs) b c took rest untaken back split e = absurd (subst T untaken (back _ e).0)

-- a mark always fits
pub marks_fit : (marks : List Bool) → ListFits (λ _. ⊤) marks
marks_fit [] = tt
marks_fit (m ∷ ms) = (tt, marks_fit ms)

-- items before which one more was read, and a comma
pub item_added : {V : Type 0} (Reads : List ℕ → V → Type 0) (before first behind text : List ℕ) (items pushed : List V) (x y : V) (ys : List V) → text ≡ (before ++ first) ++ codes "," → pushed ≡ items ++ (x ∷ []) → ReadsItems Reads (before ++ (first ++ (codes "," ++ behind))) (items ++ (x ∷ (y ∷ ys))) → ReadsItems Reads (text ++ behind) (pushed ++ (y ∷ ys))
item_added Reads before first behind text items pushed x y ys is push h =
    let bytes : text ++ behind ≡ before ++ (first ++ (codes "," ++ behind)) = ap (λ t. t ++ behind) is ∙ append_assoc (before ++ first) (codes ",") behind ∙ append_assoc before first (codes "," ++ behind) in
    let list : pushed ++ (y ∷ ys) ≡ items ++ (x ∷ (y ∷ ys)) = ap (λ l. l ++ (y ∷ ys)) push ∙ append_assoc items (x ∷ []) (y ∷ ys) in
    subst (λ t. ReadsItems Reads t (pushed ++ (y ∷ ys))) (sym bytes) (subst (ReadsItems Reads (before ++ (first ++ (codes "," ++ behind)))) (sym list) h)
