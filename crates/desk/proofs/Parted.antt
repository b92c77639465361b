-- Rows in turn, cut where the partition changes.
use Rattle.std.proofs.Common.{◌≡◌, ℕ, suc, ◌+◌, ◌-◌, ◌<◌, Bool, true, false, eqb, List, [], ◌∷◌, ◌++◌, length, get_or, map, vec_items, Vec, Result, IfOk, Option, refl, ap, sym, ◌∙◌, subst, ⊎_elim, arith}
use Rattle.std.proofs.lemmas.Bool.{cases_Bool, cond-true, cond-false}
use Rattle.std.proofs.lemmas.List.{length-append, length-map, get_or_append_left, get_or-append-add}
use Rattle.std.specs.List.{AllAdjacentBelow, IsChunkByPrefix, flat_map, range_with_len}
use Rattle.std.proofs.lemmas.List.FromFn.{length-range_with_len}
use Rattle.std.specs.Borrow.{Bor}
use Rattle.std.specs.Fn.{ComputesOnPairs}
use Rattle.std.specs.declared.slice.ChunkBy.{ChunkBy}
use Rattle.std.specs.Slice.Iter.{chunk_by_callee, chunk_by_rest, chunk_by_steps}
use Rattle.std.proofs.lemmas.Iterator.{YieldsList, IsCollectResult}
use Rattle.std.proofs.lemmas.Iterator.Consumers.{map_from_collect}
use Rattle.std.proofs.lemmas.Iterator.Splits.{YieldsList-from_shown_while}
use denote.Param.Members.{Mut}
use Rattle.turns.specs.declared.layout.Turn.{Turn}
use Rattle.evaluator.specs.Meaning.{Meaning}
use Rattle.options.specs.declared.frame.RowsFrame.{RowsFrame}
use Rattle.desk.specs.Answers.{answers_in_turn, joined, part_answers, parted}
use Rattle.desk.specs.Parts.{part}

-- two rows of one partition
abbrev pub same_part : Turn → Turn → Bool
same_part t u = eqb t.partition u.partition

begins : (t : Turn) (ps : List (List Turn)) → (others : List Turn) × (more : List (List Turn)) × (joined t ps ≡ (t ∷ others) ∷ more)
begins t [] = ([], [], refl)
begins t ([] ∷ ps) = ([], ps, refl)
begins t ((u ∷ us) ∷ ps) = ⊎_elim (λ y. (u ∷ us, ps, cond-true (same_part t u) _ _ y)) (λ n. ([], (u ∷ us) ∷ ps, cond-false (same_part t u) _ _ n)) (cases_Bool (same_part t u))

alone : (t u : Turn) (us : List Turn) → same_part t u ≡ false → parted (t ∷ u ∷ us) ≡ (t ∷ []) ∷ parted (u ∷ us)
alone t u us h =
    let (others, more, e) = begins u (parted us) in
    ap (λ ps. joined t ps) e ∙ cond-false (same_part t u) _ _ h ∙ ap (λ ps. (t ∷ []) ∷ ps) (sym e)

front : (t : Turn) (ts us : List Turn) → AllAdjacentBelow (λ x y. same_part x y ≡ true) (t ∷ ts) (length (t ∷ ts)) → (0 < length us → (d : Turn) → same_part (get_or (t ∷ ts) (length ts) d) (get_or us 0 d) ≡ false) → parted ((t ∷ ts) ++ us) ≡ (t ∷ ts) ∷ parted us
front t [] [] a b = refl
front t [] (u ∷ us) a b = alone t u us (b (omega arith) t)
front t (s ∷ ts) us a b = ap (λ ps. joined t ps) (front s ts us (λ k d h. let e : suc k + 1 ≡ suc (k + 1) = omega arith in subst (λ (j : ℕ). same_part (get_or (t ∷ s ∷ ts) (suc k) d) (get_or (t ∷ s ∷ ts) j d) ≡ true) e (a (suc k) d (omega arith))) (λ h d. b h d)) ∙ cond-true (same_part t s) _ _ (a 0 t (omega arith))

-- the longest front of one partition comes off
pub parted_step : (rest chunk left : List Turn) → rest ≡ chunk ++ left → 0 < length chunk → IsChunkByPrefix same_part rest (length chunk) → parted rest ≡ chunk ∷ parted left
parted_step rest [] left e h p = absurd (omega arith)
parted_step rest (t ∷ ts) left e h p =
    let q = subst (λ r. IsChunkByPrefix same_part r (length (t ∷ ts))) e p in
    ap parted e ∙ front t ts left (λ k d l.
    let a : get_or ((t ∷ ts) ++ left) k d ≡ get_or (t ∷ ts) k d = get_or_append_left (t ∷ ts) left d k (omega arith) in
    let b : get_or ((t ∷ ts) ++ left) (k + 1) d ≡ get_or (t ∷ ts) (k + 1) d = get_or_append_left (t ∷ ts) left d (k + 1) (omega arith) in
    let c : same_part (get_or ((t ∷ ts) ++ left) k d) (get_or ((t ∷ ts) ++ left) (k + 1) d) ≡ true = q.0 k d l in
    cc)
    (λ l d.
    let less : length (t ∷ ts) - 1 ≡ length ts = omega arith in
    let same : length (t ∷ ts) ≡ length (t ∷ ts) + 0 = omega arith in
    let a : get_or ((t ∷ ts) ++ left) (length (t ∷ ts) - 1) d ≡ get_or (t ∷ ts) (length ts) d = ap (λ (k : ℕ). get_or ((t ∷ ts) ++ left) k d) less ∙ get_or_append_left (t ∷ ts) left d (length ts) (omega arith) in
    let b : get_or ((t ∷ ts) ++ left) (length (t ∷ ts)) d ≡ get_or left 0 d = ap (λ (k : ℕ). get_or ((t ∷ ts) ++ left) k d) same ∙ get_or-append-add (t ∷ ts) left 0 d in
    let c : same_part (get_or ((t ∷ ts) ++ left) (length (t ∷ ts) - 1) d) (get_or ((t ∷ ts) ++ left) (length (t ∷ ts)) d) ≡ false = q.1 (omega (arith, length-append (t ∷ ts) left)) d in
    cc)

none_parted : (ts : List Turn) → length ts ≡ 0 → length (parted ts) ≡ 0
none_parted [] h = refl
none_parted (t ∷ ts) h = absurd (omega arith)

-- the chunks of one partition each
pub chunks : {F : Type 0} (g : Mut F (Bor Turn × (Bor Turn × Unit {0})) Bool) (s : ChunkBy Turn F) → ComputesOnPairs g same_part (chunk_by_callee s) → YieldsList (chunk_by_steps g) (λ p. p.now) s (parted (chunk_by_rest s))
chunks g s p =
    YieldsList-from_shown_while (chunk_by_steps g) (λ p. p.now) (λ s. parted (chunk_by_rest s)) (λ s. ComputesOnPairs g same_part (chunk_by_callee s))
    (λ s t p h. none_parted (chunk_by_rest s) h.0)
    (λ s x t p h. ((h.2 same_part p).0, parted_step (chunk_by_rest s) x.now (chunk_by_rest t) h.0 h.1 (h.2 same_part p).1))
    s p

-- what collects them
pub collected : {F Z E : Type 0} (g : Mut F (Bor Turn × (Bor Turn × Unit {0})) Bool) (s : ChunkBy Turn F) (r : Result (Vec (Bor (List Turn)) Z) E) (ts : List Turn) → IsCollectResult (chunk_by_steps g) s r → chunk_by_rest s ≡ ts → ComputesOnPairs g same_part (chunk_by_callee s) → IfOk r (λ w. map (λ p. p.now) (vec_items w) ≡ parted ts)
collected g s r ts ran rest p = map_from_collect r ran (subst (λ us. YieldsList (chunk_by_steps g) (λ p. p.now) s (parted us)) rest (chunks g s p))

rejoined : (t : Turn) (ps : List (List Turn)) → flat_map (λ x. x) (joined t ps) ≡ t ∷ flat_map (λ x. x) ps
rejoined t [] = refl
rejoined t ([] ∷ ps) = refl
rejoined t ((u ∷ us) ∷ ps) = ⊎_elim (λ y. rw y refl) (λ n. rw n refl) (cases_Bool (same_part t u))

all_parted : (ts : List Turn) → flat_map (λ x. x) (parted ts) ≡ ts
all_parted [] = refl
all_parted (t ∷ ts) = rejoined t (parted ts) ∙ ap (λ us. t ∷ us) (all_parted ts)

as_long : {A : Type 0} (f : List Turn → List A) → ((ts : List Turn) → length (f ts) ≡ length ts) → (ps : List (List Turn)) → length (flat_map f ps) ≡ length (flat_map (λ x. x) ps)
as_long f e [] = refl
as_long f e (p ∷ ps) = length-append (f p) (flat_map f ps) ∙ omega (arith, e p, as_long f e ps) ∙ sym (length-append p (flat_map (λ x. x) ps))

-- an answer for each row
pub answers_long : {V A : Type 0} (m : Meaning V A) (wants : Bool) (frame : Option RowsFrame) (cells : List (Option V)) (turns : List Turn) → length (answers_in_turn m wants frame cells turns) ≡ length turns
answers_long m wants frame cells turns =
    as_long (part_answers m wants frame cells) (λ ts. length-map (range_with_len 0 (length ts)) (m.answer (part wants frame cells ts)) ∙ length-range_with_len 0 (length ts)) (parted turns)
    ∙ ap length (all_parted turns)
