-- One event more: how a history splits then, and what its counts become.
use Rattle.std.proofs.Common.{◌≡◌, ℕ, ◌+◌, Bool, cond, ◌&&◌, ◌⊎◌, List, [], ◌∷◌, ◌++◌, length, Option, refl, ap, inl, inr, ⊎_elim, arith}
use Rattle.std.proofs.lemmas.List.{length-append}
use Rattle.replay.specs.declared.calls.Call.{Call}
use Rattle.replay.specs.declared.calls.Entry.{Entry}
use Rattle.partition.specs.Table.{Frame}
use Rattle.replay.specs.History.{Event, history, accepted, answered, last_frame, frame_of, total_of, total_after}

tail_same : {X : Type 0} (x y : X) (xs ys : List X) → x ∷ xs ≡ y ∷ ys → (x ≡ y) × (xs ≡ ys)
tail_same x y xs ys p = (cc, cc)

pub never_nil : {X : Type 0} (bs : List X) (e : X) (after : List X) → [] ≡ bs ++ e ∷ after → ⊥
never_nil bs e after p = omega (arith, simp length-append at (ap length p))

-- a split of a list with one more element: at that element, or a split of the list before
pub split_push : {X : Type 0} (h : List X) (x : X) (before : List X) (e : X) (after : List X) → h ++ x ∷ [] ≡ before ++ e ∷ after → ((h ≡ before) × (x ≡ e)) ⊎ ((more : List X) × (h ≡ before ++ e ∷ more))
split_push [] x [] e after p = inl (refl, (tail_same x e [] after p).0)
split_push (y ∷ ys) x [] e after p = inr (ys, ap (λ k. k ∷ ys) (tail_same y e (ys ++ x ∷ []) after p).0)
split_push [] x (b ∷ bs) e after p = absurd (never_nil bs e after (tail_same x b [] (bs ++ e ∷ after) p).1)
split_push (y ∷ ys) x (b ∷ bs) e after p =
    let q = tail_same y b (ys ++ x ∷ []) (bs ++ e ∷ after) p in
    ⊎_elim (λ s. inl (cc, s.1)) (λ s. inr (s.0, cc)) (split_push ys x bs e after q.1)

pub accepted_push : {V A : Type 0} (h : List (Event V A)) (e : Event V A) → accepted (h ++ e ∷ []) ≡ accepted h + cond (answered e.1.outcome) 1 0
accepted_push [] e = omega arith
accepted_push (x ∷ xs) e = omega (arith, accepted_push xs e)

pub last_push : {V A : Type 0} (wants : Bool) (f : Frame) (h : List (Event V A)) (e : Event V A) → last_frame wants f (h ++ e ∷ []) ≡ cond (wants && answered e.1.outcome) (frame_of e.0) (last_frame wants f h)
last_push wants f [] e = refl
last_push wants f (x ∷ xs) e = last_push wants (cond (wants && answered x.1.outcome) (frame_of x.0) f) xs e

pub total_push : {V A : Type 0} (t : Option ℕ) (h : List (Event V A)) (e : Event V A) → total_of t (h ++ e ∷ []) ≡ total_after (total_of t h) e.0 e.1.outcome
total_push t [] e = refl
total_push t (x ∷ xs) e = total_push (total_after t x.0 x.1.outcome) xs e

pub history_push : {V A : Type 0} (cs : List (Call V)) (ns : List (Entry A)) (c : Call V) (n : Entry A) → length cs ≡ length ns → history (cs ++ c ∷ []) (ns ++ n ∷ []) ≡ history cs ns ++ (c, n) ∷ []
history_push [] [] c n p = refl
history_push [] (y ∷ ns) c n p = absurd (omega arith)
history_push (x ∷ cs) [] c n p = absurd (omega arith)
history_push (x ∷ cs) (y ∷ ns) c n p = ap (λ k. (x, y) ∷ k) (history_push cs ns c n (omega arith))
