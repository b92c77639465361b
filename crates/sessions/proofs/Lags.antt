-- LAG 1 ignoring NULLs is the last present cell before a row. Assumes nothing.
use Rattle.std.proofs.Common.{◌≡◌, ℕ, zero, suc, ◌<◌, ◌≤◌, Bool, true, false, cond, List, [], ◌∷◌, length, get_or, take, map, pos, is_some, Some, None, Ok, Err, Option, Result, unwrap_or, sym, refl, ap, ◌∙◌, subst, add-one, arith}
use Rattle.std.specs.Bool.{then_some}
use Rattle.std.specs.List.{slice_get}
use Rattle.std.proofs.lemmas.List.{take_more, length-map, get_or_default}
use Rattle.column.specs.declared.kind.Instant.{Instant}
use Rattle.column.specs.Cells.{cells}
use Rattle.column.proofs.Cells.{cell_within, length-cells}
use Rattle.column.specs.Slots.{CellSlots, Filled}
use Rattle.column.specs.declared.fault.Fault.{Fault}
use Rattle.partition.specs.Table.{Input, row_count}
use Rattle.evaluator.specs.declared.utils.Argument.TheVariants.{Missing}
use Rattle.evaluator.specs.Meaning.{Partition, partition}
use Rattle.lead_lag.specs.declared.WindowShift.{WindowShift}
use Rattle.lead_lag.specs.declared.offset.WindowShiftKind.TheVariants.{Lag}
use Rattle.lead_lag.specs.Offset.{way_of}
use Rattle.present.specs.Present.{at, before}
use Rattle.lead_lag.specs.Shift.{taken, shifted, shift_meaning, making}
use Rattle.sessions.specs.Sessions.{Cell, later, last_present, last_before, Answered}
use Rattle.sessions.proofs.Places.{some_at}
use Rattle.sessions.proofs.Present.{last_push}

pub lag_is_last : (rows : List Cell) (i : ℕ) → i ≤ length rows → shifted (way_of (pos 1)) true None rows i ≡ last_before rows i
lag_is_last rows zero h = refl
lag_is_last rows (suc i) h = step (at rows i) refl (lag_is_last rows i (omega arith))
  where
    next : last_before rows (suc i) ≡ later (last_before rows i) (at rows i)
    next = ap (λ (k : ℕ). last_before rows k) (sym (add-one i)) ∙ ap last_present (take_more rows i None (omega arith)) ∙ last_push (take i rows) (at rows i)

    step : (c : Cell) → at rows i ≡ c → taken (at rows) None (slice_get (before (at rows) i) 0) ≡ last_before rows i → taken (at rows) None (slice_get (cond (is_some (at rows i)) (i ∷ before (at rows) i) (before (at rows) i)) 0) ≡ last_before rows (suc i)
    step None e old = ap (λ d. taken (at rows) None (slice_get (cond (is_some d) (i ∷ before (at rows) i) (before (at rows) i)) 0)) e ∙ old ∙ sym (next ∙ ap (later (last_before rows i)) e)
    step (Some x) e old = ap (λ d. taken (at rows) None (slice_get (cond (is_some d) (i ∷ before (at rows) i) (before (at rows) i)) 0)) e ∙ e ∙ sym (next ∙ ap (later (last_before rows i)) e)

whole : (c : Cell) (d : Instant) → then_some (is_some c) (unwrap_or c d) ≡ c
whole None d = refl
whole (Some x) d = refl

pub joined_all : (cs : List Cell) (d : Instant) → cells (map (λ c. unwrap_or c d) cs) (map (λ c. is_some c) cs) ≡ cs
joined_all [] d = refl
joined_all (None ∷ cs) d = ap (λ l. None ∷ l) (joined_all cs d)
joined_all (Some x ∷ cs) d = ap (λ l. Some x ∷ l) (joined_all cs d)

filled_by : {V : Type 0} (f g : ℕ → Option V) (n : ℕ) (s t : CellSlots V) → ((k : ℕ) → k < n → f k ≡ g k) → Filled f n s t → Filled g n s t
filled_by f g n s t same h = record {
  marks_long = h.marks_long;
  values_long = h.values_long;
  marks_at = λ k l. h.marks_at k l ∙ ap is_some (same k l);
  values_at = λ k d l. h.values_at k d l ∙ ap (λ o. unwrap_or o (get_or s.values k d)) (same k l);
  marks_beyond = h.marks_beyond;
  values_beyond = h.values_beyond;
}

answer_of : Result (WindowShift Instant) Fault → Partition Instant → ℕ → Cell
answer_of (Ok s) p i = (shift_meaning s).answer p i
answer_of (Err f) p i = None

-- what the evaluator writes, for LAG without an offset, ignoring NULLs, with NULL as its default
pub filled-last : (shift : WindowShift Instant) (x : Input Instant) (vs : List Instant) (ms : List Bool) (s t : CellSlots Instant) → making Lag Missing false true None ≡ Ok shift → x ≡ record { values = vs; marks = ms; frames = []; groups = [] } → length ms ≡ length vs → Filled ((shift_meaning shift).answer (partition false x)) (row_count x) s t → Filled (last_before (cells vs ms)) (length vs) s t
unfolding answer_of
filled-last shift x vs ms s t made is same h =
    let one : (p : Partition Instant) (k : ℕ) → (shift_meaning shift).answer p k ≡ shifted (way_of (pos 1)) true None p.rows k = λ p k. ap (λ r. answer_of r p k) (sym made) in
    filled_by _ _ (length vs) s t (λ k l. one (partition false (record { values = vs; marks = ms; frames = []; groups = [] })) k ∙ lag_is_last (cells vs ms) k (omega (arith, length-cells vs ms (sym same)))) (subst (λ y. Filled ((shift_meaning shift).answer (partition false y)) (row_count y) s t) is h)

-- the cells of the lists that were written
pub answered_by : (vs us ws : List Instant) (ms ks ns : List Bool) → length ms ≡ length vs → length us ≡ length vs → length ks ≡ length vs → Filled (last_before (cells vs ms)) (length vs) (record { values = us; marks = ks }) (record { values = ws; marks = ns }) → Answered (cells vs ms) (cells ws ns)
answered_by vs us ws ms ks ns em eu ek h = record {
  all = length-cells ws ns (sym same) ∙ h.values_long ∙ eu ∙ sym (length-cells vs ms (sym em));
  each = λ k l. written k (omega (arith, length-cells vs ms (sym em)));
}
  where
    same : length ns ≡ length ws
    same = h.marks_long ∙ ek ∙ sym eu ∙ sym h.values_long

    written : (k : ℕ) → k < length vs → get_or (cells ws ns) k None ≡ last_before (cells vs ms) k
    written k l =
        let w : k < length ws = omega (arith, h.values_long) in
        let d = (some_at ws k w).0 in
        sym (cell_within ws ns k (get_or ws k d) (get_or_default ws k d (get_or ws k d) w) w)
        ∙ ap (λ b. then_some b (get_or ws k d)) (h.marks_at k l)
        ∙ ap (then_some (is_some (last_before (cells vs ms) k))) (h.values_at k d l)
        ∙ whole (last_before (cells vs ms) k) (get_or us k d)

-- cells as values and marks, through the evaluator, and back
pub answered_cells : (cs : List Cell) (d : Instant) (vs us ws xs : List Instant) (ms ks ns bs : List Bool) (out : List Cell) → vs ≡ map (λ c. unwrap_or c d) cs → ms ≡ map (λ c. is_some c) cs → length us ≡ length cs → length ks ≡ length cs → Filled (last_before (cells vs ms)) (length vs) (record { values = us; marks = ks }) (record { values = ws; marks = ns }) → xs ≡ ws → bs ≡ ns → out ≡ cells xs bs → Answered cs out
answered_cells cs d vs us ws xs ms ks ns bs out ev em eu ek h ew en is =
    let values_long : length vs ≡ length cs = ap length ev ∙ length-map cs (λ c. unwrap_or c d) in
    let marks_long : length ms ≡ length cs = ap length em ∙ length-map cs (λ c. is_some c) in
    let joined : cells vs ms ≡ cs = ap (λ l. cells l ms) ev ∙ ap (cells (map (λ c. unwrap_or c d) cs)) em ∙ joined_all cs d in
    let made : out ≡ cells ws ns = is ∙ ap (λ l. cells l bs) ew ∙ ap (cells ws) en in
    subst (λ l. Answered l out) joined (subst (Answered (cells vs ms)) (sym made) (answered_by vs us ws ms ks ns (marks_long ∙ sym values_long) (eu ∙ sym values_long) (ek ∙ sym values_long) h))
