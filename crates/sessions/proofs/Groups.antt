-- A record more in the lists of the sessions. Assumes nothing.
use Rattle.std.proofs.Common.{◌≡◌, ℕ, zero, suc, ◌+◌, ◌<◌, max, Bool, true, false, cond, List, [], ◌∷◌, ◌++◌, map, length, get_or, take, set, vec_items, vec_len, Vec, sym, refl, ap, ◌∙◌, subst, append-nil, arith, length-set}
use Rattle.std.specs.Vec.{with_item}
use Rattle.std.specs.Str.{bytes_eq}
use Rattle.std.proofs.lemmas.List.{map-set, get_or-map, take_more, get_or-set_same, get_or-set_other, length_push, map-append}
use Rattle.std.proofs.lemmas.Slice.Eq.{bytes_eq-Decides}
use Rattle.sessions.specs.declared.record.Record.{Record}
use Rattle.sessions.specs.Sessions.{Cell, session, session_at, cells_of, lists, Appended}

module _ {Y Z : Type 0} (v : Vec (Vec Cell Y) Z) (n : ℕ) (x : Vec Cell Y) (within : n < vec_len v) (here : x ≡ get_or (vec_items v) n x) where
  list_at : get_or (lists v) n [] ≡ vec_items x
  list_at = get_or-map vec_items (vec_items v) n x [] (subst (λ (k : ℕ). n < k) v.ok.0 within) ∙ ap vec_items (sym here)

  pub append_at : (y : Vec Cell Y) (c : Cell) → vec_items y ≡ vec_items x ++ (c ∷ []) → lists (with_item v n y) ≡ set (lists v) n (get_or (lists v) n [] ++ (c ∷ []))
  append_at y c e = map-set vec_items (vec_items v) n y ∙ ap (λ l. set (lists v) n l) (e ∙ ap (λ l. l ++ (c ∷ [])) (sym list_at))

-- an empty list at the end changes no list
push_nil : (ls : List (List Cell)) (k : ℕ) → get_or (ls ++ ([] ∷ [])) k [] ≡ get_or ls k []
push_nil [] zero = refl
push_nil [] (suc k) = refl
push_nil (l ∷ ls) zero = refl
push_nil (l ∷ ls) (suc k) = push_nil ls k

set_appended : (old mid : List (List Cell)) (n : ℕ) (c : Cell) → n < length mid → length mid ≡ max (length old) (n + 1) → ((k : ℕ) → get_or mid k [] ≡ get_or old k []) → Appended old (set mid n (get_or mid n [] ++ (c ∷ []))) n c
set_appended old mid n c within long same = record {
  count = length-set mid n (get_or mid n [] ++ (c ∷ [])) ∙ long;
  here = get_or-set_same mid n (get_or mid n [] ++ (c ∷ [])) [] within ∙ ap (λ l. l ++ (c ∷ [])) (same n);
  others = λ k q. get_or-set_other mid n k (get_or mid n [] ++ (c ∷ [])) [] q ∙ same k;
}

pub appended_old : (ls mid : List (List Cell)) (n : ℕ) (c : Cell) → n < length ls → mid ≡ ls → Appended ls (set mid n (get_or mid n [] ++ (c ∷ []))) n c
appended_old ls mid n c within same = set_appended ls mid n c (omega (arith, ap length same)) (omega (arith, ap length same)) (λ k. ap (λ l. get_or l k []) same)

pub appended_new : (ls mid : List (List Cell)) (n : ℕ) (c : Cell) → n ≡ length ls → mid ≡ ls ++ ([] ∷ []) → Appended ls (set mid n (get_or mid n [] ++ (c ∷ []))) n c
appended_new ls mid n c end more = set_appended ls mid n c (omega (arith, ap length more, length_push {X = List Cell} ls [])) (omega (arith, ap length more, length_push {X = List Cell} ls [])) (λ k. ap (λ l. get_or l k []) more ∙ push_nil ls k)

pub cells-append : (s : List ℕ) (rs qs : List Record) → cells_of s (rs ++ qs) ≡ cells_of s rs ++ cells_of s qs
cells-append s [] qs = refl
cells-append s (r ∷ rs) qs = step (bytes_eq s (session r)) (cells-append s rs qs)
  where
    step : (b : Bool) → cells_of s (rs ++ qs) ≡ cells_of s rs ++ cells_of s qs → cond b (r.expiry ∷ cells_of s (rs ++ qs)) (cells_of s (rs ++ qs)) ≡ cond b (r.expiry ∷ cells_of s rs) (cells_of s rs) ++ cells_of s qs
    step true e = ap (λ l. r.expiry ∷ l) e
    step false e = e

cells_push : (s : List ℕ) (rs : List Record) (r : Record) → cells_of s (rs ++ (r ∷ [])) ≡ cells_of s rs ++ cond (bytes_eq s (session r)) (r.expiry ∷ []) []
cells_push s rs r = cells-append s rs (r ∷ [])

pub push_same : (s : List ℕ) (rs : List Record) (r : Record) → s ≡ session r → cells_of s (rs ++ (r ∷ [])) ≡ cells_of s rs ++ (r.expiry ∷ [])
push_same s rs r e = cells_push s rs r ∙ ap (λ b. cells_of s rs ++ cond b (r.expiry ∷ []) []) ((bytes_eq-Decides s (session r)).1 e)

pub push_other : (s : List ℕ) (rs : List Record) (r : Record) → (s ≡ session r → ⊥) → cells_of s (rs ++ (r ∷ [])) ≡ cells_of s rs
push_other s rs r differ = cells_push s rs r ∙ step (bytes_eq s (session r)) refl
  where
    step : (b : Bool) → bytes_eq s (session r) ≡ b → cells_of s rs ++ cond b (r.expiry ∷ []) [] ≡ cells_of s rs
    step true e = absurd (differ ((bytes_eq-Decides s (session r)).0 e))
    step false e = append-nil (cells_of s rs)

module _ (rows : List Record) (i : ℕ) (r : Record) (within : i < length rows) (here : r ≡ get_or rows i r) where
  pub row_session : session_at rows i ≡ session r
  row_session = get_or-map session rows i r [] within ∙ ap session (sym here)

  next_take : take (i + 1) rows ≡ take i rows ++ (r ∷ [])
  next_take = take_more rows i r within ∙ ap (λ q. take i rows ++ (q ∷ [])) (sym here)

  pub take_same : (s : List ℕ) → s ≡ session_at rows i → cells_of s (take (i + 1) rows) ≡ cells_of s (take i rows) ++ (r.expiry ∷ [])
  take_same s e = ap (cells_of s) next_take ∙ push_same s (take i rows) r (e ∙ row_session)

  pub take_other : (s : List ℕ) → (s ≡ session_at rows i → ⊥) → cells_of s (take (i + 1) rows) ≡ cells_of s (take i rows)
  take_other s differ = ap (cells_of s) next_take ∙ push_other s (take i rows) r (λ e. differ (e ∙ sym row_session))

pub lists_push : {Y Z : Type 0} (v w : Vec (Vec Cell Y) Z) (x : Vec Cell Y) → vec_items w ≡ vec_items v ++ (x ∷ []) → vec_items x ≡ [] → lists w ≡ lists v ++ ([] ∷ [])
lists_push v w x more empty = ap (map vec_items) more ∙ map-append vec_items (vec_items v) (x ∷ []) ∙ ap (λ l. lists v ++ (l ∷ [])) empty
