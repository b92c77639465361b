-- The answers of the sessions, and of the records. Assumes nothing.
use Rattle.std.proofs.Common.{◌≡◌, ℕ, ◌+◌, ◌<◌, ◌≤◌, List, [], ◌++◌, map, length, get_or, take, drop, None, vec_items, Vec, sym, refl, ap, ◌∙◌, subst, arith, length-append, All}
use Rattle.std.proofs.lemmas.List.{length_push, length-map, get_or-map, take_at, take-append-drop}
use Rattle.column.specs.Refusal.{row_limit}
use Rattle.sessions.specs.declared.partitions.Place.{Place}
use Rattle.sessions.specs.declared.record.Record.{Record}
use Rattle.sessions.specs.Sessions.{Cell, session_at, cells_of, last_present, last_expiry, Grouped, Answered, AllAnswered, Bounded, Inside, cell_at, LastRenewed}
use Rattle.sessions.proofs.Places.{some_at}
use Rattle.sessions.proofs.Groups.{cells-append, take_same}

pub bounded_all : {Y : Type 0} {cs ps : List (Vec Cell Y)} → Bounded (map vec_items cs) → ps ≡ cs → All (λ p. length (vec_items p) ≤ row_limit) ps
bounded_all {ps} b e k d h = subst (λ l. length l ≤ row_limit) (get_or-map vec_items ps k d [] h) (subst (λ l. Bounded (map vec_items l)) (sym e) b k)

-- the cells before record i of its session are fewer than all
fewer : (rows : List Record) (i : ℕ) → i < length rows → length (cells_of (session_at rows i) (take i rows)) < length (cells_of (session_at rows i) rows)
fewer rows i h =
    let s = session_at rows i in
    let r = some_at rows i h in
    let front = take_same rows i r.0 h r.1 s refl in
    let whole : cells_of s rows ≡ cells_of s (take (i + 1) rows) ++ cells_of s (drop (i + 1) rows) = ap (cells_of s) (sym (take-append-drop (i + 1) rows)) ∙ cells-append s (take (i + 1) rows) (drop (i + 1) rows) in
    omega (arith, ap length whole, length-append (cells_of s (take (i + 1) rows)) (cells_of s (drop (i + 1) rows)), ap length front, length_push (cells_of s (take i rows)) r.0.expiry)

module _ {Y : Type 0} {rows : List Record} {cs bs : List (Vec Cell Y)} {places : List Place} (g : Grouped rows (map vec_items cs) places) (a : AllAnswered cs bs) (i : ℕ) (d : Place) (h : i < length rows) where
  session_fits : (get_or places i d).session < length cs
  session_fits = omega (arith, g.session i d h, length-map cs vec_items)

  answered : Answered (get_or (map vec_items cs) (get_or places i d).session []) (get_or (map vec_items bs) (get_or places i d).session [])
  answered =
      let k = (get_or places i d).session in
      let x = (some_at cs k session_fits).0 in
      rw (get_or-map vec_items cs k x [] session_fits, get_or-map vec_items bs k x [] (omega (arith, session_fits, a.all))) (a.each k x x session_fits)

  row_fits : (get_or places i d).row < length (get_or (map vec_items cs) (get_or places i d).session [])
  row_fits = omega (arith, ap length (g.cells i d h), g.row i d h, fewer rows i h)

  inside : Inside (map vec_items bs) (get_or places i d)
  inside = (omega (arith, session_fits, a.all, length-map bs vec_items), omega (arith, row_fits, answered.all))

  renewed_at : cell_at (map vec_items bs) (get_or places i d) ≡ last_expiry rows i
  renewed_at =
      let s = session_at rows i in
      let p = get_or places i d in
      let front = cells_of s (take i rows) in
      let cut : cells_of s rows ≡ front ++ cells_of s (drop i rows) = ap (cells_of s) (sym (take-append-drop i rows)) ∙ cells-append s (take i rows) (drop i rows) in
      answered.each p.row row_fits
      ∙ ap (λ l. last_present (take p.row l)) (g.cells i d h ∙ cut)
      ∙ ap last_present (take_at front (cells_of s (drop i rows)) p.row (sym (g.row i d h)))

-- the same of what the slices lend
module _ {Y : Type 0} {rows : List Record} {cs bs ps vs : List (Vec Cell Y)} {places qs : List Place} (g : Grouped rows (map vec_items cs) places) (ep : ps ≡ cs) (a : AllAnswered ps bs) (ev : vs ≡ bs) (eq : qs ≡ places) where
  all_answered : AllAnswered cs bs
  all_answered = subst (λ l. AllAnswered l bs) ep a

  pub lent_inside : All (Inside (map vec_items vs)) qs
  lent_inside = subst (λ l. All (Inside (map vec_items vs)) l) (sym eq) (subst (λ l. All (Inside (map vec_items l)) places) (sym ev) (λ k d h. inside g all_answered k d (omega (arith, g.all, h))))

  pub lent_renewed : (cells : List Cell) → cells ≡ map (cell_at (map vec_items vs)) qs → LastRenewed rows cells
  lent_renewed cells is =
      let same : cells ≡ map (cell_at (map vec_items bs)) places = is ∙ ap (λ l. map (cell_at (map vec_items l)) qs) ev ∙ ap (map (cell_at (map vec_items bs))) eq in
      subst (LastRenewed rows) (sym same) (record {
        all = length-map places (cell_at (map vec_items bs)) ∙ g.all;
        each = λ i h. get_or-map (cell_at (map vec_items bs)) places i (record { session = 0; row = 0 }) None (omega (arith, g.all, h)) ∙ renewed_at g all_answered i (record { session = 0; row = 0 }) h;
      })
