-- The text behind an opening quote, as far as it was read.
use Rattle.std.proofs.Common.{◌≡◌, ◌≢◌, ℕ, ◌+◌, ◌-◌, ◌<◌, ◌≤◌, ◌==◌, Bool, true, false, not, cond, List, [], ◌∷◌, ◌++◌, length, take, drop, get_or, slice_get, slice_range, Some, inr, refl, sym, ap, ◌∙◌, append_assoc, append-nil, arith, length-append, length-take, drop-cons}
use Rattle.std.proofs.lemmas.List.{take_more, take-append-drop, take_all, length-drop}
use Rattle.std.proofs.Math.Seq.{take-append_seam, drop-append_seam}
use Rattle.std.proofs.lemmas.Bool.Decides.{nat_tests}
use Rattle.table.specs.Fields.{After, Closed, Cuts, Open, Stray, Trailed, doubled, quoted}
use Rattle.table.specs.declared.field.Then.{Then}

-- the bytes read so far, of which the last is a quote that waits for what follows
pub record Seen (pending : Bool) (bs : List ℕ) : Type 0 where
  pub content : List ℕ
  pub is : bs ≡ doubled content ++ cond pending (34 ∷ []) []

pub doubled-append : (xs ys : List ℕ) → doubled (xs ++ ys) ≡ doubled xs ++ doubled ys
doubled-append [] ys = refl
doubled-append (x ∷ xs) ys = elim (x == 34) as (λ b. cond b (34 ∷ 34 ∷ doubled (xs ++ ys)) (x ∷ doubled (xs ++ ys)) ≡ cond b (34 ∷ 34 ∷ doubled xs) (x ∷ doubled xs) ++ doubled ys) [
  | true ↦ ap (λ l. 34 ∷ 34 ∷ l) (doubled-append xs ys)
  | false ↦ ap (λ l. x ∷ l) (doubled-append xs ys)
]

doubled_other : (b : ℕ) → (b == 34) ≡ false → doubled (b ∷ []) ≡ b ∷ []
doubled_other b h = ap (λ v. cond v (34 ∷ 34 ∷ []) (b ∷ [])) h

-- one quote more
pub quote_more : (p : Bool) (bs : List ℕ) → Seen p bs → Seen (not p) (bs ++ (34 ∷ []))
quote_more false bs s = record { content = s.content; is = ap (λ l. l ++ (34 ∷ [])) (s.is ∙ append-nil _) }
quote_more true bs s = record {
  content = s.content ++ (34 ∷ []);
  is = ap (λ l. l ++ (34 ∷ [])) s.is ∙ append_assoc (doubled s.content) (34 ∷ []) (34 ∷ []) ∙ sym (doubled-append s.content (34 ∷ [])) ∙ sym (append-nil _);
}

-- another byte more
pub other_more : (bs : List ℕ) (b : ℕ) → (b == 34) ≡ false → Seen false bs → Seen false (bs ++ (b ∷ []))
other_more bs b h s = record {
  content = s.content ++ (b ∷ []);
  is = ap (λ l. l ++ (b ∷ [])) (s.is ∙ append-nil _) ∙ sym (ap (λ l. doubled s.content ++ l) (doubled_other b h)) ∙ sym (doubled-append s.content (b ∷ [])) ∙ sym (append-nil _);
}

-- a quote that waits closes where another byte comes, or none
pub closed_before : (body : List ℕ) (i : ℕ) → i ≤ length body → Seen true (take i body) → slice_get (drop i body) 0 ≢ Some 34 → Closed body (i - 1)
closed_before body i h s other =
    let front : length (take i body) ≡ length (doubled s.content) + 1 = ap length s.is ∙ length-append (doubled s.content) (34 ∷ []) in (
      s.content,
      drop i body,
      sym (take-append-drop i body) ∙ ap (λ l. l ++ drop i body) s.is ∙ append_assoc (doubled s.content) (34 ∷ []) (drop i body),
      omega (arith, front, length-take i body),
      other,
    )

pub open_all : (body : List ℕ) → Seen false (take (length body) body) → Open body
open_all body s = (s.content, sym (take_all (length body) body (omega arith)) ∙ s.is ∙ append-nil _)

-- what stands at a place of the body, and behind it
pub next_other : (body : List ℕ) (i : ℕ) → i < length body → get_or body i 0 ≢ 34 → slice_get (drop i body) 0 ≢ Some 34
next_other body i h other e = let q : Some (get_or body i 0) ≡ Some 34 = sym (ap (λ l. slice_get l 0) (drop-cons body i 0 h)) ∙ e in other (cc)

pub seen_quote : (p q : Bool) (body : List ℕ) (i : ℕ) → i < length body → get_or body i 0 ≡ 34 → q ≡ not p → Seen p (take i body) → Seen q (take (i + 1) body)
seen_quote p q body i h e n s = rw (n, take_more body i 0 h, e) (quote_more p (take i body) s)

pub seen_other : (body : List ℕ) (i : ℕ) → i < length body → get_or body i 0 ≢ 34 → Seen false (take i body) → Seen false (take (i + 1) body)
seen_other body i h other s = rw (take_more body i 0 h) (other_more (take i body) _ (grind (arith, nat_tests)) s)

-- a text that begins with a field in quotes
pub record Quoted (text : List ℕ) (end : ℕ) : Type 0 where
  pub content : List ℕ
  pub rest : List ℕ
  pub whole : text ≡ quoted content ++ rest
  pub front : take (end + 2) text ≡ quoted content
  pub back : drop (end + 2) text ≡ rest
  pub place : end + 2 ≡ length (quoted content)
  pub single : slice_get rest 0 ≢ Some 34

pub quoted_text : (text body : List ℕ) (end : ℕ) → slice_get text 0 ≡ Some 34 → body ≡ drop 1 text → Closed body end → Quoted text end
quoted_text [] body end q e c = absurd (cc)
quoted_text (b ∷ bs) body end q e c =
    let first : b ≡ 34 = cc in
    let content = c.0 in
    let rest = c.1 in
    let tail : bs ≡ doubled content ++ (34 ∷ rest) = sym e ∙ c.2 in
    let whole : b ∷ bs ≡ quoted content ++ rest = ap (λ l. b ∷ l) (tail ∙ sym (append_assoc (doubled content) (34 ∷ []) rest)) ∙ ap (λ x. x ∷ ((doubled content ++ (34 ∷ [])) ++ rest)) first in
    let many : end + 2 ≡ length (quoted content) = omega (arith, c.3, length-append (doubled content) (34 ∷ [])) in
    record {
      content = content;
      rest = rest;
      whole = whole;
      front = ap (λ n. take n (b ∷ bs)) many ∙ ap (λ l. take (length (quoted content)) l) whole ∙ take-append_seam (quoted content) rest;
      back = ap (λ n. drop n (b ∷ bs)) many ∙ ap (λ l. drop (length (quoted content)) l) whole ∙ drop-append_seam (quoted content) rest;
      place = many;
      single = c.4;
    }

behind_quote : (text : List ℕ) (end : ℕ) → slice_get text 0 ≡ Some 34 → Closed (slice_range text 1 (length text)) end → Quoted text end
behind_quote text end q c = quoted_text text (slice_range text 1 (length text)) end q (take_all (length text - 1) (drop 1 text) (omega (arith, length-drop 1 text))) c

pub quoted_cut : (text raw rest : List ℕ) (end : ℕ) (then : Then) → slice_get text 0 ≡ Some 34 → Closed (slice_range text 1 (length text)) end → raw ≡ take (end + 2) text → rest ≡ drop (end + 2) text → After rest then → Cuts text raw then
quoted_cut text raw rest end then q c r e a =
    let p = behind_quote text end q c in
    let front : raw ≡ quoted p.content = r ∙ p.front in
    let back : rest ≡ p.rest = e ∙ p.back in
    (rest, rw (front, back) p.whole, (p.content, inr front), a)

pub quoted_trailed : (text rest : List ℕ) (end : ℕ) → slice_get text 0 ≡ Some 34 → Closed (slice_range text 1 (length text)) end → rest ≡ drop (end + 2) text → Stray rest → Trailed text (end + 2)
quoted_trailed text rest end q c e s =
    let p = behind_quote text end q c in
    let back : rest ≡ p.rest = e ∙ p.back in
    record { content = p.content; rest = rest; whole = rw back p.whole; place = p.place; stray = s; single = rw back p.single }
