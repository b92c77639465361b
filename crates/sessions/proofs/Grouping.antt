-- The lists of the sessions, a record at a time. Assumes nothing.
use Rattle.std.proofs.Common.{◌≡◌, ℕ, ◌+◌, ◌<◌, ◌≤◌, Bool, true, false, cond, eqb, List, [], ◌∷◌, ◌++◌, length, get_or, take, vec_items, vec_len, Vec, Some, None, Option, sym, refl, ap, ◌∙◌, subst, ⊎_elim, add-one, arith}
use Rattle.std.specs.Option.{unwrap_or}
use Rattle.std.specs.Str.{bytes_eq}
use Rattle.std.specs.BTreeMap.{BTreeMap}
use Rattle.std.specs.Borrow.{Bor}
use Rattle.std.proofs.lemmas.List.{length-map, length_push, take_all, get_or_default, get_or_past}
use Rattle.std.proofs.lemmas.Option.{same_Some, none-some}
use Rattle.std.proofs.lemmas.Slice.Eq.{bytes_eq-Decides}
use Rattle.std.proofs.lemmas.Bool.{cases_eq, ne_eqb}
use Rattle.column.specs.Refusal.{row_limit}
use Rattle.sessions.specs.declared.partitions.Place.{Place}
use Rattle.sessions.specs.declared.record.Record.{Record}
use Rattle.sessions.specs.Names.{number_in, Numbered}
use Rattle.sessions.specs.Sessions.{Cell, lists, session, session_at, cells_of, Grouped, Appended, Bounded, Full, FirstFull, Within, sessions_in}
use Rattle.sessions.proofs.Groups.{row_session, take_same, take_other}
use Rattle.sessions.proofs.Pushes.{each_push}

-- where record j stands, f being the numbers of the names
pub record Placed (rows : List Record) (f : List ℕ → Option ℕ) (j : ℕ) (p : Place) : Type 0 where
  pub session : f (session_at rows j) ≡ Some p.session
  pub row : p.row ≡ length (cells_of (session_at rows j) (take j rows))
  pub small : p.row < row_limit

-- the list of a name's number, which has cells and is no other name's
pub record Listed (rows : List Record) (i : ℕ) (ls : List (List Cell)) (v : List ℕ) (n : ℕ) : Type 0 where
  pub within : n < length ls
  pub some : 0 < length (cells_of v (take i rows))
  pub cells : get_or ls n [] ≡ cells_of v (take i rows)

-- the first i records in the lists of their sessions, f being the numbers of the names so far
pub record Grouping (rows : List Record) (f : List ℕ → Option ℕ) (i : ℕ) (ls : List (List Cell)) (places : List Place) : Type 0 where
  pub all : length places ≡ i
  pub fresh : (v : List ℕ) → f v ≡ None → cells_of v (take i rows) ≡ []
  pub listed : (v : List ℕ) (n : ℕ) → f v ≡ Some n → Listed rows i ls v n
  pub own : (v w : List ℕ) (n : ℕ) → f v ≡ Some n → f w ≡ Some n → v ≡ w
  pub placed : (j : ℕ) (d : Place) → j < i → Placed rows f j (get_or places j d)
  pub bounded : Bounded ls
  pub count : length ls ≡ sessions_in rows i

module _ (rows : List Record) (i : ℕ) (r : Record) (within : i < length rows) (here : r ≡ get_or rows i r)
    (f g : List ℕ → Option ℕ) (n : ℕ) (ls ls' : List (List Cell)) (places : List Place) (old : Grouping rows f i ls places)
    (number : n ≡ unwrap_or (f (session r)) (length ls)) where
  same_name : session_at rows i ≡ session r
  same_name = row_session rows i r within here

  -- a name that has a number keeps it
  kept : (p : ℕ) → f (session r) ≡ Some p → n ≡ p
  kept p e = number ∙ ap (λ o. unwrap_or o (length ls)) e

  -- a new name has the next number
  next : f (session r) ≡ None → n ≡ length ls
  next e = number ∙ ap (λ o. unwrap_or o (length ls)) e

  -- the session's list, empty where it is new
  pub list_here : get_or ls n [] ≡ cells_of (session r) (take i rows)
  list_here = by (f (session r)) refl
    where
      by : (o : Option ℕ) → f (session r) ≡ o → get_or ls n [] ≡ cells_of (session r) (take i rows)
      by None e = get_or_past ls n [] (omega (arith, next e)) ∙ sym (old.fresh (session r) e)
      by (Some p) e = (old.listed (session r) n (e ∙ ap Some (sym (kept p e)))).cells

  module _ (names : (v : List ℕ) → g v ≡ cond (bytes_eq (session r) v) (Some n) (f v)) (more : Appended ls ls' n r.expiry) where
    grown : cells_of (session r) (take (i + 1) rows) ≡ cells_of (session r) (take i rows) ++ (r.expiry ∷ [])
    grown = take_same rows i r within here (session r) (sym same_name)

    list_grown : get_or ls' n [] ≡ cells_of (session r) (take (i + 1) rows)
    list_grown = more.here ∙ ap (λ l. l ++ (r.expiry ∷ [])) list_here ∙ sym grown

    -- what g has of a name: the session's number, or what f has
    session_now : (v : List ℕ) → bytes_eq (session r) v ≡ true → g v ≡ Some n
    session_now v e = names v ∙ ap (λ b. cond b (Some n) (f v)) e

    other_now : (v : List ℕ) → bytes_eq (session r) v ≡ false → g v ≡ f v
    other_now v e = names v ∙ ap (λ b. cond b (Some n) (f v)) e

    is_session : (v : List ℕ) → bytes_eq (session r) v ≡ true → v ≡ session r
    is_session v e = sym ((bytes_eq-Decides (session r) v).0 e)

    no_session : (v : List ℕ) → bytes_eq (session r) v ≡ false → v ≡ session r → ⊥
    no_session v e q = let t = (bytes_eq-Decides (session r) v).1 (sym q) in let z : ◌≡◌ {A = ℕ} 0 1 = ap (λ b. cond b 0 1) (sym t ∙ e) in omega (arith, z)

    stays : (v : List ℕ) → bytes_eq (session r) v ≡ false → cells_of v (take (i + 1) rows) ≡ cells_of v (take i rows)
    stays v e = take_other rows i r within here v (λ q. no_session v e (q ∙ same_name))

    -- another name has another number
    apart : (v : List ℕ) (q : ℕ) → bytes_eq (session r) v ≡ false → f v ≡ Some q → q ≡ n → ⊥
    apart v q e h same = by (f (session r)) refl
      where
        by : (o : Option ℕ) → f (session r) ≡ o → ⊥
        by None z = omega (arith, next z, same, (old.listed v q h).within)
        by (Some p) z = no_session v e (old.own v (session r) q h (z ∙ ap Some (sym (kept p z) ∙ sym same)))

    fresh_more : (v : List ℕ) (b : Bool) → bytes_eq (session r) v ≡ b → g v ≡ None → cells_of v (take (i + 1) rows) ≡ []
    fresh_more v true e h = absurd (none-some n (sym h ∙ session_now v e))
    fresh_more v false e h = stays v e ∙ old.fresh v (sym (other_now v e) ∙ h)

    listed_more : (v : List ℕ) (q : ℕ) (b : Bool) → bytes_eq (session r) v ≡ b → g v ≡ Some q → Listed rows (i + 1) ls' v q
    listed_more v q true e h = subst (λ (w : List ℕ). Listed rows (i + 1) ls' w q) (sym (is_session v e)) (subst (Listed rows (i + 1) ls' (session r)) (same_Some n q (sym (session_now v e) ∙ h)) (record {
      within = omega (arith, more.count);
      some = omega (arith, ap length grown, length_push (cells_of (session r) (take i rows)) r.expiry);
      cells = list_grown;
    }))
    listed_more v q false e h =
        let was : f v ≡ Some q = sym (other_now v e) ∙ h in
        let l = old.listed v q was in
        record {
          within = omega (arith, more.count, l.within);
          some = omega (arith, ap length (stays v e), l.some);
          cells = more.others q (apart v q e was) ∙ l.cells ∙ sym (stays v e);
        }

    own_more : (v w : List ℕ) (q : ℕ) (a b : Bool) → bytes_eq (session r) v ≡ a → bytes_eq (session r) w ≡ b → g v ≡ Some q → g w ≡ Some q → v ≡ w
    own_more v w q true true d e h k = is_session v d ∙ sym (is_session w e)
    own_more v w q true false d e h k = absurd (apart w q e (sym (other_now w e) ∙ k) (sym (same_Some n q (sym (session_now v d) ∙ h))))
    own_more v w q false true d e h k = absurd (apart v q d (sym (other_now v d) ∙ h) (sym (same_Some n q (sym (session_now w e) ∙ k))))
    own_more v w q false false d e h k = old.own v w q (sym (other_now v d) ∙ h) (sym (other_now w e) ∙ k)

    -- a record before keeps its place
    placed_still : (j : ℕ) (p : Place) → Placed rows f j p → Placed rows g j p
    placed_still j p h = record { session = by (bytes_eq (session r) (session_at rows j)) refl; row = h.row; small = h.small }
      where
        by : (b : Bool) → bytes_eq (session r) (session_at rows j) ≡ b → g (session_at rows j) ≡ Some p.session
        by true e = session_now (session_at rows j) e ∙ ap Some (kept p.session (ap f (sym (is_session (session_at rows j) e)) ∙ h.session))
        by false e = other_now (session_at rows j) e ∙ h.session

    placed_here : (p : Place) → p.session ≡ n → p.row ≡ length (get_or ls n []) → p.row < row_limit → Placed rows g i p
    placed_here p s k small = record {
      session = session_now (session_at rows i) ((bytes_eq-Decides (session r) (session_at rows i)).1 (sym same_name)) ∙ ap Some (sym s);
      row = k ∙ ap length list_here ∙ ap (λ (v : List ℕ). length (cells_of v (take i rows))) (sym same_name);
      small = small;
    }

    bounded_more : length (get_or ls n []) < row_limit → Bounded ls'
    bounded_more small k = ⊎_elim (λ (q : k ≡ n). subst (λ (a : ℕ). length (get_or ls' a []) ≤ row_limit) (sym q) (omega (arith, ap length more.here, length_push (get_or ls n []) r.expiry))) (λ (q : k ≡ n → ⊥). subst (λ l. length l ≤ row_limit) (sym (more.others k q)) (old.bounded k)) (cases_eq k n)

    count_more : length ls' ≡ sessions_in rows (i + 1)
    count_more = by (f (session r)) refl
      where
        one_more : sessions_in rows (i + 1) ≡ length ls + cond (eqb (length (cells_of (session r) (take i rows))) 0) 1 0
        one_more = ap (sessions_in rows) (add-one i) ∙ ap (λ (k : ℕ). k + cond (eqb (length (cells_of (session_at rows i) (take i rows))) 0) 1 0) (sym old.count) ∙ ap (λ (v : List ℕ). length ls + cond (eqb (length (cells_of v (take i rows))) 0) 1 0) same_name

        by : (o : Option ℕ) → f (session r) ≡ o → length ls' ≡ sessions_in rows (i + 1)
        by None e =
            let first = ap (λ (l : List Cell). cond {A = ℕ} (eqb (length l) 0) 1 0) (old.fresh (session r) e) in
            omega (arith, one_more, first, more.count, next e)
        by (Some p) e =
            let l = old.listed (session r) p e in
            let later = ap (λ b. cond {A = ℕ} b 1 0) (ne_eqb (length (cells_of (session r) (take i rows))) 0 (λ z. omega (arith, l.some, z))) in
            omega (arith, one_more, later, more.count, kept p e, l.within)

    -- a turn of the loop
    pub grouped_more : (p : Place) (places' : List Place) → p.session ≡ n → p.row ≡ length (get_or ls n []) → p.row < row_limit → places' ≡ places ++ (p ∷ []) → Grouping rows g (i + 1) ls' places'
    grouped_more p places' s k small is = record {
      all = omega (arith, ap length is, length_push places p, old.all);
      fresh = λ v h. fresh_more v (bytes_eq (session r) v) refl h;
      listed = λ v q h. listed_more v q (bytes_eq (session r) v) refl h;
      own = λ v w q h e. own_more v w q (bytes_eq (session r) v) (bytes_eq (session r) w) refl refl h e;
      placed = λ j d h. subst (λ l. Placed rows g j (get_or l j d)) (sym is) (each_push (Placed rows g) places p d i old.all (λ a b. placed_still a (get_or places a d) (old.placed a d b)) (placed_here p s k small) j h);
      bounded = bounded_more (omega (arith, small, k));
      count = count_more;
    }

pub grouped_none : (rows : List Record) (f : List ℕ → Option ℕ) (ls : List (List Cell)) (places : List Place) → ((v : List ℕ) → f v ≡ None) → ls ≡ [] → places ≡ [] → Grouping rows f 0 ls places
grouped_none rows f ls places blank e p = record {
  all = ap length p;
  fresh = λ v h. refl;
  listed = λ v n h. absurd (none-some n (sym (blank v) ∙ h));
  own = λ v w n h k. absurd (none-some n (sym (blank v) ∙ h));
  placed = λ j d h. absurd (omega (arith, h));
  bounded = λ k. subst (λ l. length (get_or l k []) ≤ row_limit) (sym e) (omega arith);
  count = ap length e;
}

-- all of them
pub grouped_all : (rows : List Record) (f : List ℕ → Option ℕ) (i : ℕ) (ls : List (List Cell)) (places : List Place) → Grouping rows f i ls places → i ≡ length rows → Grouped rows ls places × Bounded ls
grouped_all rows f i ls places g end = (
  record {
    all = g.all ∙ end;
    session = λ j d h. (listed j d h).within;
    cells = λ j d h. (listed j d h).cells ∙ ap (cells_of (session_at rows j)) (take_all i rows (omega (arith, end)));
    row = λ j d h. (g.placed j d (omega (arith, end))).row;
    sessions = g.count ∙ ap (sessions_in rows) end;
  },
  g.bounded,
)
  where
    listed : (j : ℕ) (d : Place) → j < length rows → Listed rows i ls (session_at rows j) (get_or places j d).session
    listed j d h = g.listed (session_at rows j) (get_or places j d).session (g.placed j d (omega (arith, end))).session

-- no record so far is too many
pub none_full : {rows : List Record} {f : List ℕ → Option ℕ} {i : ℕ} {ls : List (List Cell)} (places : List Place) → Grouping rows f i ls places → (j : ℕ) → j < i → Full rows j → ⊥
none_full places g j h full =
    let p = g.placed j (record { session = 0; row = 0 }) h in
    omega (arith, p.row, p.small, full)

-- the session's number is that of a list, or the next
number_range : {rows : List Record} {f : List ℕ → Option ℕ} {i : ℕ} {ls : List (List Cell)} {places : List Place} (v : List ℕ) (n : ℕ) → Grouping rows f i ls places → n ≡ unwrap_or (f v) (length ls) → n ≤ length ls
number_range {f = f} {ls = ls} v n g number = by (f v) refl
  where
    by : (o : Option ℕ) → f v ≡ o → n ≤ length ls
    by None e = let q = number ∙ ap (λ o. unwrap_or o (length ls)) e in omega (arith, q)
    by (Some p) e = let q = number ∙ ap (λ o. unwrap_or o (length ls)) e in omega (arith, q, (g.listed v p e).within)

-- no session is longer than a partition may be
pub within_all : {rows : List Record} {places : List Place} (ls : List (List Cell)) → Grouped rows ls places → Bounded ls → Within rows
within_all {rows} {places} ls g b i h = by places g.all (λ p. g.cells i p h)
  where
    by : (ps : List Place) → length ps ≡ length rows → ((d : Place) → get_or ls (get_or places i d).session [] ≡ cells_of (session_at rows i) rows) → length (cells_of (session_at rows i) rows) ≤ row_limit
    by [] e at = absurd (omega (arith, e))
    by (p ∷ ps) e at = subst (λ l. length l ≤ row_limit) (at p) (b (get_or places i p).session)

-- the same of what the loop's calls say
module _ {rows : List Record} {old new : BTreeMap (Bor (List ℕ)) ℕ} {i : ℕ} {places : List Place} {Y Z : Type 0} (v : Vec (Vec Cell Y) Z) (d : Record) (m n : ℕ)
    (within : i < length rows) (before : Grouping rows (number_in old) i (lists v) places) (end : m ≡ vec_len v) (named : Numbered old new (session (get_or rows i d)) m n) where
  many : length (lists v) ≡ m
  many = length-map (vec_items v) vec_items ∙ sym v.ok.0 ∙ sym end

  number : n ≡ unwrap_or (number_in old (session (get_or rows i d))) (length (lists v))
  number = named.number ∙ ap (unwrap_or (number_in old (session (get_or rows i d)))) (sym many)

  here : get_or rows i d ≡ get_or rows i (get_or rows i d)
  here = get_or_default rows i d (get_or rows i d) within

  pub in_range : n ≤ vec_len v
  in_range = omega (arith, many, end, number_range (session (get_or rows i d)) n before number)

  pub grouped_turn : (k : ℕ) (w : Vec (Vec Cell Y) Z) (places' : List Place) → Appended (lists v) (lists w) n (get_or rows i d).expiry → k ≡ length (get_or (lists v) n []) → k < row_limit → places' ≡ places ++ (record { session = n; row = k } ∷ []) → Grouping rows (number_in new) (i + 1) (lists w) places'
  grouped_turn k w places' more e small is = grouped_more rows i (get_or rows i d) within here (number_in old) (number_in new) n (lists v) (lists w) places before number named.names more (record { session = n; row = k }) places' refl e small is

  -- a record more is the first that is too many
  pub first_full : (k : ℕ) → k ≡ length (get_or (lists v) n []) → row_limit ≤ k → FirstFull rows i
  first_full k e large =
      let list = list_here rows i (get_or rows i d) within here (number_in old) (number_in new) n (lists v) (lists v) places before number in
      record {
        within = within;
        full = omega (arith, e, large, before.bounded n, ap length list, ap (λ (s : List ℕ). length (cells_of s (take i rows))) (row_session rows i (get_or rows i d) within here));
        before = none_full places before;
      }
