-- One quote for each two.
use Rattle.std.proofs.Common.{◌≡◌, ℕ, ◌+◌, ◌<◌, ◌==◌, Bool, true, false, not, cond, List, [], ◌∷◌, ◌++◌, length, drop, slice_get, slice_index, Some, inl, inr, refl, sym, ap, ◌∙◌, subst, append-nil, add-one, arith}
use Rattle.std.proofs.lemmas.List.{drop_all}
use Rattle.std.proofs.lemmas.Bool.Decides.{nat_tests}
use Rattle.std.specs.List.{IsAnyAnswer}
use Rattle.std.specs.Str.Iter.{LacksByte}
use Rattle.table.specs.Contents.{Says}
use Rattle.table.specs.Fields.{Plain, doubled, quoted, special}

-- a quote more turns whether one waits
abbrev pub turned : ℕ → Bool → Bool
turned b p = cond (b == 34) (not p) p

-- the bytes that are kept
abbrev pub undoubled : Bool → List ℕ → List ℕ
undoubled p [] = []
undoubled p (b ∷ bs) = cond (turned b p) (undoubled true bs) (b ∷ undoubled false bs)

undoubled_doubled : (c : List ℕ) → undoubled false (doubled c) ≡ c
undoubled_doubled [] = refl
undoubled_doubled (b ∷ bs) = here (undoubled_doubled bs) (b == 34) refl
  where
    here : undoubled false (doubled bs) ≡ bs → (v : Bool) → (b == 34) ≡ v → undoubled false (cond (b == 34) (34 ∷ 34 ∷ doubled bs) (b ∷ doubled bs)) ≡ b ∷ bs
    here old true e =
        let is : b ≡ 34 = grind (arith, nat_tests) in
        ap (λ v. undoubled false (cond v (34 ∷ 34 ∷ doubled bs) (b ∷ doubled bs))) e ∙ ap (λ l. 34 ∷ l) old ∙ ap (λ x. x ∷ bs) (sym is)
    here old false e =
        ap (λ v. undoubled false (cond v (34 ∷ 34 ∷ doubled bs) (b ∷ doubled bs))) e
        ∙ ap (λ v. cond (cond v true false) (undoubled true (doubled bs)) (b ∷ undoubled false (doubled bs))) e
        ∙ ap (λ l. b ∷ l) old

pub undoubled_all : (body out : List ℕ) (p : Bool) → out ++ undoubled p (drop (length body) body) ≡ undoubled false body → (c : List ℕ) → body ≡ doubled c → out ≡ c
undoubled_all body out p e c d = sym (ap (λ l. out ++ undoubled p l) (drop_all (length body) body (omega arith)) ∙ append-nil out) ∙ e ∙ ap (λ l. undoubled false l) d ∙ undoubled_doubled c

quote_is : (34 == 34) ≡ true
quote_is = refl

-- a text whose quotes are doubled and that has none has none to double
single : (c : List ℕ) → LacksByte 34 (doubled c) → doubled c ≡ c
single [] h = refl
single (b ∷ bs) h = here (single bs) (b == 34) refl (λ e k l q. h (k + 1) (longer e l) (later e k q))
  where
    shape : (b == 34) ≡ false → doubled (b ∷ bs) ≡ b ∷ doubled bs
    shape e = ap (λ v. cond v (34 ∷ 34 ∷ doubled bs) (b ∷ doubled bs)) e

    longer : (b == 34) ≡ false → {k : ℕ} → k < length (doubled bs) → k + 1 < length (doubled (b ∷ bs))
    longer e l = omega (arith, ap length (shape e))

    later : (e : (b == 34) ≡ false) (k : ℕ) → slice_index (doubled bs) k ≡ 34 → slice_index (doubled (b ∷ bs)) (k + 1) ≡ 34
    later e k q = ap (λ l. slice_index l (k + 1)) (shape e) ∙ next k ∙ q
      where
        next : (k : ℕ) → slice_index (b ∷ doubled bs) (k + 1) ≡ slice_index (doubled bs) k
        next k = ap (λ n. slice_index (b ∷ doubled bs) n) (add-one k)

    here : (LacksByte 34 (doubled bs) → doubled bs ≡ bs) → (v : Bool) → (b == 34) ≡ v → ((b == 34) ≡ false → LacksByte 34 (doubled bs)) → doubled (b ∷ bs) ≡ b ∷ bs
    here old true e f =
        let twice : doubled (b ∷ bs) ≡ 34 ∷ 34 ∷ doubled bs = ap (λ v. cond v (34 ∷ 34 ∷ doubled bs) (b ∷ doubled bs)) e in
        absurd (h 0 (omega (arith, ap length twice)) (ap (λ l. slice_index l 0) twice))
    here old false e f = shape e ∙ ap (λ l. b ∷ l) (old (f e))

lacks : (body : List ℕ) (r : Bool) → IsAnyAnswer (λ y b. (y == 34) ≡ b) body r → r ≡ false → LacksByte 34 body
lacks body true any e = let z : false ≡ true = sym e in absurd (cc)
lacks body false others e = λ k l q. let t : (slice_index body k == 34) ≡ false = others k 0 (omega arith) l in absurd (grind (arith, nat_tests))

-- a field in quotes says what stands between them, where none is doubled there
pub says_between : (raw body : List ℕ) → slice_get raw 0 ≡ Some 34 → ((c : List ℕ) → raw ≡ quoted c → body ≡ doubled c) → (r : Bool) → IsAnyAnswer (λ y b. (y == 34) ≡ b) body r → r ≡ false → Says raw body
says_between [] body q between r any e content is = absurd (cc)
says_between (b ∷ bs) body q between r any e content (inl plain) =
    let first : b ≡ 34 = cc in
    let plainly : Plain (b ∷ bs) = subst (λ (l : List ℕ). Plain l) (sym plain.0) plain.1 in
    let s : special b ≡ false = plainly 0 (omega arith) in
    absurd (grind (arith, nat_tests))
says_between (b ∷ bs) body q between r any e content (inr quoted) =
    let is = between content quoted in
    is ∙ single content (subst (λ (l : List ℕ). LacksByte 34 l) is (lacks body r any e))
