-- Going through the groups of a column: what is known at place k, with what is left of them.
use Rattle.std.proofs.Common.{◌≡◌, ℕ, ◌+◌, ◌<◌, ◌≤◌, Bool, true, false, not, ◌&&◌, ◌==◌, MatchOption, List, [], ◌∷◌, ◌++◌, length, get_or, take, drop, set, Some, None, Option, sym, refl, ap, ◌∙◌, arith, below_more}
use Rattle.std.proofs.lemmas.List.{length-drop, drop_more, take_more, set_at, length-take-le, append_assoc}
use Rattle.std.specs.Option.{option_eq}
use Rattle.partition.specs.Peers.{Group}
use Rattle.partition.specs.Table.{differ, groups_fault}
use Rattle.partition.proofs.Faults.{fault_some, fault_none}

module _ (hs : List Group) (k : ℕ) (left : List Group) where
  pub record Left : Type 0 where
    pub rest : drop k hs ≡ left
    pub within : k ≤ length hs

  -- nothing is left
  pub at_end : Left → left ≡ [] → length hs ≡ k
  at_end a e = omega (arith, length-drop k hs, ap length (a.rest ∙ e), a.within)

  -- the next
  at_next : Left → (x : Group) (more : List Group) → left ≡ x ∷ more → (k < length hs) × (get_or hs k (0, 0) ≡ x) × (drop (k + 1) hs ≡ more)
  at_next a x more e =
      let lt : k < length hs = omega (arith, length-drop k hs, ap length (a.rest ∙ e), a.within) in
      let step : drop k hs ≡ get_or hs k (0, 0) ∷ drop (k + 1) hs = drop_more hs k (0, 0) lt in
      let same : get_or hs k (0, 0) ∷ drop (k + 1) hs ≡ x ∷ more = sym step ∙ a.rest ∙ e in
      (lt, cc, cc)

-- beside a list that is compared with them

-- equal groups, as `==` tests it
abbrev pub equal : Group → Group → Bool
equal g h = g.0 == h.0 && g.1 == h.1

abbrev pub Agree : List Group → List Group → ℕ → Type 0
Agree gs hs k = (j : ℕ) → j < k → differ (get_or gs j (0, 0)) (get_or hs j (0, 0)) ≡ false

module _ (gs hs : List Group) (k : ℕ) (left : List Group) (a : Left hs k left) (g : Agree gs hs k) (more : List Group) where
  abbrev pub Next : Option Group → Type 0
  Next r = MatchOption r ((left ≡ []) × (more ≡ [])) (λ x. left ≡ x ∷ more)

  pub next_differs : k < length gs → (r : Option Group) → Next r → not (option_eq equal (Some (get_or gs k (0, 0))) r) ≡ true → Some k ≡ groups_fault gs hs
  next_differs h None n d =
      let e = at_end hs k left a n.0 in
      fault_some (λ k. differ (get_or gs k (0, 0)) (get_or hs k (0, 0))) (length gs) (length hs) k (omega (arith, e)) (omega (arith, e)) g (λ l. absurd (omega (arith, e)))
  next_differs h (Some x) n d =
      let e = at_next hs k left a x more n in
      fault_some (λ k. differ (get_or gs k (0, 0)) (get_or hs k (0, 0))) (length gs) (length hs) k (omega (arith, e.0)) (omega (arith, e.0)) g (λ l. rw e.1 d)

  pub next_agrees : (r : Option Group) → Next r → not (option_eq equal (Some (get_or gs k (0, 0))) r) ≡ false → Left hs (k + 1) more × Agree gs hs (k + 1)
  next_agrees None n d = (cc, cc)
  next_agrees (Some x) n d =
      let e = at_next hs k left a x more n in
      (record { rest = e.2; within = omega (arith, e.0) }, below_more (λ k. differ (get_or gs k (0, 0)) (get_or hs k (0, 0)) ≡ false) k g (rw e.1 d))

module _ (gs hs : List Group) (k : ℕ) (left : List Group) (a : Left hs k left) (g : Agree gs hs k) where
  -- the list that is compared is at its end, and so are they
  pub all_seen : k ≡ length gs → left ≡ [] → None ≡ groups_fault gs hs
  all_seen q e =
      let end = at_end hs k left a e in
      fault_none (λ k. differ (get_or gs k (0, 0)) (get_or hs k (0, 0))) (length gs) (length hs) (omega (arith, end)) (λ j h. g j (omega arith))

  -- the list that is compared is at its end, and they are not
  pub more_left : k ≡ length gs → 0 < length left → Some (length gs) ≡ groups_fault gs hs
  more_left q h =
      let lt : k < length hs = omega (arith, length-drop k hs, ap length a.rest) in
      fault_some (λ k. differ (get_or gs k (0, 0)) (get_or hs k (0, 0))) (length gs) (length hs) (length gs) (omega (arith, lt)) (omega (arith, lt)) (λ j h. g j (omega arith)) (λ l. absurd (omega arith))

-- one more of them over the front of a list
front_more : (hs old now : List Group) (k : ℕ) (g : Group) → k < length hs → length hs ≤ length old → get_or hs k (0, 0) ≡ g → now ≡ take k hs ++ drop k old → set now k g ≡ take (k + 1) hs ++ drop (k + 1) old
front_more hs old now k g h room e n =
    let d : drop k old ≡ get_or old k (0, 0) ∷ drop (k + 1) old = drop_more old k (0, 0) (omega arith) in
    let t : take (k + 1) hs ≡ take k hs ++ get_or hs k (0, 0) ∷ [] = take_more hs k (0, 0) h in
    let s : set (take k hs ++ get_or old k (0, 0) ∷ drop (k + 1) old) k g ≡ take k hs ++ g ∷ drop (k + 1) old = set_at (take k hs) (get_or old k (0, 0)) (drop (k + 1) old) g k (length-take-le k hs (omega arith)) in
    rw (n, d, s, t, append_assoc, e) refl

pub front_step : (hs old now left more : List Group) (n k m : ℕ) (g : Group) → Left hs n left → now ≡ take n hs ++ drop n old → length hs ≤ length old → left ≡ g ∷ more → k ≡ n → m ≡ n + 1 → Left hs m more × (set now k g ≡ take m hs ++ drop m old)
front_step hs old now left more n k m g a f room e ek em =
    let x = at_next hs n left a g more e in
    (record { rest = rw em x.2; within = omega (arith, em, x.0) }, rw (ek, em) (front_more hs old now n g x.0 room x.1 f))
