-- The groups of a list of cells, one by one.
use Rattle.std.proofs.Common.{◌≡◌, ℕ, zero, suc, ◌+◌, ◌-◌, ◌<◌, ◌≤◌, Bool, true, false, T, List, [], ◌∷◌, length, get_or, drop, Some, None, Option, MatchOption, unwrap_or, sym, refl, ap, ◌∙◌, subst, ⊎_elim, add-zero, arith}
use Rattle.std.proofs.lemmas.List.{drop_more, drop_all, length-drop, get_or-drop, drop-drop}
use Rattle.std.proofs.lemmas.Bool.{cond-true, cond-false, cond_both, cases_Bool, cases_eq}
use Rattle.column.specs.Cells.{same_cell}
use Rattle.column.proofs.Sameness.{holds}
use Rattle.partition.specs.Peers.{Group, continued, peers_from, peers, IsGroup, Tiled, PeerLaw}

pub same_self : {V : Type 0} (same : V → V → Bool) → ((x : V) → T (same x x)) → (c : Option V) → same_cell same c c ≡ true
same_self same h None = refl
same_self same h (Some x) = holds (same x x) (h x)

module _ {V : Type 0} (same : V → V → Bool) where
  -- whether a row is the same as row s
  abbrev pub Like : List (Option V) → ℕ → ℕ → Type 0
  Like cs s k = same_cell same (get_or cs s None) (get_or cs k None) ≡ true

  abbrev pub Unlike : List (Option V) → ℕ → ℕ → Type 0
  Unlike cs s k = same_cell same (get_or cs s None) (get_or cs k None) ≡ false

  from_start : ((x : V) → T (same x x)) → (cs : List (Option V)) (s e : ℕ) → ((k : ℕ) → s + 1 ≤ k → k < e → Like cs s k) → (j : ℕ) → s ≤ j → j < e → Like cs s j
  from_start self cs s e h j p q = ⊎_elim (λ n. subst (Like cs s) (sym n) (same_self same self (get_or cs s None))) (λ n. h j (omega arith) q) (cases_eq j s)

  continued_run : (l : List (Option V)) (c : Option V) (s j m : ℕ) → m ≤ length l → ((k : ℕ) → k < m → same_cell same c (get_or l k None) ≡ true) → (m < length l → same_cell same c (get_or l m None) ≡ false) → continued same c s j l ≡ (s, j + m) ∷ peers_from same (j + m) (drop m l)
  continued_run [] c s j zero h a z = rw add-zero refl
  continued_run [] c s j (suc m) h a z = absurd (omega arith)
  continued_run (d ∷ ds) c s j zero h a z = rw add-zero (cond-false (same_cell same c d) _ _ (z (omega arith)))
  continued_run (d ∷ ds) c s j (suc m) h a z =
      let e : j + 1 + m ≡ j + suc m = omega arith in
      cond-true (same_cell same c d) _ _ (a 0 (omega arith)) ∙ continued_run ds c s (j + 1) m (omega arith) (λ k l. a (suc k) (omega arith)) (λ l. z (omega arith)) ∙ rw e refl

  -- the group of row s ends at the first row that differs, else at the last row
  pub group_to : ((x : V) → T (same x x)) → (cs : List (Option V)) (s n : ℕ) → length cs ≡ n → s < n → (r : Option ℕ) → MatchOption r ((k : ℕ) → s + 1 ≤ k → k < n → Like cs s k) (λ e. (s + 1 ≤ e) × (e < n) × Unlike cs s e × ((k : ℕ) → s + 1 ≤ k → k < e → Like cs s k)) → (e : ℕ) → e ≡ unwrap_or r n → IsGroup same cs s e
  group_to self cs s n long lt None h e is = record { nonempty = omega (arith, is); within = omega (arith, long, is); alike = λ j p q. from_start self cs s n h j p (omega (arith, is)); stops = λ l. absurd (omega (arith, long, is)) }
  group_to self cs s n long lt (Some x) h e is = rw is (record { nonempty = omega (arith, h.0); within = omega (arith, long, h.1); alike = from_start self cs s x h.3; stops = λ l. h.2 })

  -- the groups from a group's first row on are that group and those from its end on
  pub run : (cs : List (Option V)) (s e : ℕ) → IsGroup same cs s e → peers_from same s (drop s cs) ≡ (s, e) ∷ peers_from same e (drop e cs)
  run cs s e g =
      let lt : s < length cs = omega (arith, g.nonempty, g.within) in
      let m = e - (s + 1) in
      let sum : s + 1 + m ≡ e = omega (arith, g.nonempty) in
      let first : peers_from same s (drop s cs) ≡ continued same (get_or cs s None) s (s + 1) (drop (s + 1) cs) = ap (peers_from same s) (drop_more cs s None lt) in
      let at : (k : ℕ) → get_or (drop (s + 1) cs) k None ≡ get_or cs (s + 1 + k) None = λ k. get_or-drop (s + 1) cs k None in
      let long : length (drop (s + 1) cs) ≡ length cs - (s + 1) = length-drop (s + 1) cs in
      let same_at : (k : ℕ) → k < m → same_cell same (get_or cs s None) (get_or (drop (s + 1) cs) k None) ≡ true = λ k h. rw (at k) (g.alike (s + 1 + k) (omega arith) (omega arith)) in
      let stop : m < length (drop (s + 1) cs) → same_cell same (get_or cs s None) (get_or (drop (s + 1) cs) m None) ≡ false = λ h. rw (at m, sum) (g.stops (omega (arith, long))) in
      let rest : continued same (get_or cs s None) s (s + 1) (drop (s + 1) cs) ≡ (s, s + 1 + m) ∷ peers_from same (s + 1 + m) (drop m (drop (s + 1) cs)) = continued_run (drop (s + 1) cs) (get_or cs s None) s (s + 1) m (omega (arith, long, g.within)) same_at stop in
      first ∙ rest ∙ rw (drop-drop m (s + 1) cs, sum) refl

  continued_some : (l : List (Option V)) (c : Option V) (s j : ℕ) → 0 < length (continued same c s j l)
  continued_some [] c s j = omega arith
  continued_some (d ∷ ds) c s j = cond_both (same_cell same c d) (continued same c s (j + 1) ds) ((s, j) ∷ continued same d j (j + 1) ds) (λ gs. 0 < length gs) (λ y. continued_some ds c s (j + 1)) (λ n. omega arith)

  -- where there is a row at or after row s there is a group
  pub left_some : (cs : List (Option V)) (s : ℕ) → s < length cs → 0 < length (peers_from same s (drop s cs))
  left_some cs s h = rw (drop_more cs s None h) (continued_some (drop (s + 1) cs) (get_or cs s None) s (s + 1))

  -- where there is a row there is a group
  pub peers_some : (cs : List (Option V)) → 0 < length cs → 0 < length (peers same cs)
  peers_some [] h = absurd (omega arith)
  peers_some (c ∷ cs) h = continued_some cs c 0 1

  continued_long : (l : List (Option V)) (c : Option V) (s j : ℕ) → length (continued same c s j l) ≤ length l + 1
  continued_long [] c s j = omega arith
  continued_long (d ∷ ds) c s j = cond_both (same_cell same c d) (continued same c s (j + 1) ds) ((s, j) ∷ continued same d j (j + 1) ds) (λ gs. length gs ≤ length (d ∷ ds) + 1) (λ y. omega (arith, continued_long ds c s (j + 1))) (λ n. omega (arith, continued_long ds d j (j + 1)))

  -- no more groups than rows
  pub peers_long : (cs : List (Option V)) → length (peers same cs) ≤ length cs
  peers_long [] = omega arith
  peers_long (c ∷ cs) = omega (arith, continued_long cs c 0 1)

  -- the groups of any tiling are these
  pub only : (cs : List (Option V)) (s : ℕ) (gs : List Group) → Tiled same cs s gs → gs ≡ peers_from same s (drop s cs)
  only cs s [] t = sym (ap (peers_from same s) (drop_all s cs (omega (arith, t))))
  only cs s (g ∷ gs) t =
      let r : peers_from same g.0 (drop g.0 cs) ≡ (g.0, g.1) ∷ peers_from same g.1 (drop g.1 cs) = run cs g.0 g.1 t.1 in
      let i : gs ≡ peers_from same g.1 (drop g.1 cs) = only cs g.1 gs t.2 in
      let q : g ∷ gs ≡ peers_from same g.0 (drop g.0 cs) = ap (λ (hs : List Group). g ∷ hs) i ∙ sym r in
      subst (λ (n : ℕ). g ∷ gs ≡ peers_from same n (drop n cs)) t.0 q

  tiles : ((x : V) → T (same x x)) → (l cs : List (Option V)) (s i : ℕ) → drop i cs ≡ l → s < i → i ≤ length cs → ((j : ℕ) → s ≤ j → j < i → same_cell same (get_or cs s None) (get_or cs j None) ≡ true) → Tiled same cs s (continued same (get_or cs s None) s i l)
  tiles self [] cs s i e lt le a =
      let end : i ≡ length cs = omega (arith, length-drop i cs, ap length e) in
      (refl, record { nonempty = lt; within = le; alike = a; stops = λ h. absurd (omega arith) }, end)
  tiles self (d ∷ ds) cs s i e lt le a =
      let more : i < length cs = omega (arith, length-drop i cs, ap length e) in
      let step : drop i cs ≡ get_or cs i None ∷ drop (i + 1) cs = drop_more cs i None more in
      let head : get_or cs i None ≡ d = cc in
      let tail : drop (i + 1) cs ≡ ds = cc in
      let yes : same_cell same (get_or cs s None) d ≡ true → Tiled same cs s (continued same (get_or cs s None) s (i + 1) ds) = λ y. tiles self ds cs s (i + 1) tail (omega arith) (omega arith) (λ j p q. ⊎_elim (λ n. subst (λ (n : ℕ). same_cell same (get_or cs s None) (get_or cs n None) ≡ true) (sym n) (rw head y)) (λ n. a j p (omega arith)) (cases_eq j i)) in
      let again : Tiled same cs i (continued same (get_or cs i None) i (i + 1) ds) = tiles self ds cs i (i + 1) tail (omega arith) (omega arith) (λ j p q. let n : j ≡ i = omega arith in subst (λ (n : ℕ). same_cell same (get_or cs i None) (get_or cs n None) ≡ true) (sym n) (same_self same self (get_or cs i None))) in
      let no : same_cell same (get_or cs s None) d ≡ false → Tiled same cs s ((s, i) ∷ continued same d i (i + 1) ds) = λ n. (refl, record { nonempty = lt; within = le; alike = a; stops = λ h. rw head n }, subst (λ (x : Option V). Tiled same cs i (continued same x i (i + 1) ds)) head again) in
      ⊎_elim (λ y. subst (Tiled same cs s) (sym (cond-true (same_cell same (get_or cs s None) d) _ _ y)) (yes y)) (λ n. subst (Tiled same cs s) (sym (cond-false (same_cell same (get_or cs s None) d) _ _ n)) (no n)) (cases_Bool (same_cell same (get_or cs s None) d))

  pub tiled : ((x : V) → T (same x x)) → (cs : List (Option V)) → Tiled same cs 0 (peers same cs)
  tiled self [] = refl
  tiled self (c ∷ cs) = tiles self cs (c ∷ cs) 0 1 refl (omega arith) (omega arith) (λ j p q. let n : j ≡ 0 = omega arith in subst (λ (n : ℕ). same_cell same c (get_or (c ∷ cs) n None) ≡ true) (sym n) (same_self same self c))

  -- the groups of the cells tile them, and no other groups do
  pub peer_law : ((x : V) → T (same x x)) → (cs : List (Option V)) → PeerLaw same cs
  peer_law self cs = record { tiled = tiled self cs; only = λ gs t. only cs 0 gs t }
