-- A row call of a shift: what its window shows, and what it then gives.
use Rattle.std.proofs.Common.{◌≡◌, ℕ, ◌+◌, ◌-◌, ◌<◌, ◌≤◌, Bool, true, false, cond, not, ◌||◌, T, ltb, leb, List, length, take, is_some, Some, None, Ok, Err, Option, unwrap_or, sym, refl, ap, ◌∙◌, subst, ⊎_elim, arith}
use Rattle.std.specs.List.{slice_get}
use Rattle.std.proofs.lemmas.List.{take_all}
use Rattle.std.proofs.lemmas.Option.{cond_some, same_Some}
use Rattle.std.proofs.lemmas.Bool.Decides.{nat_tests}
use Rattle.std.proofs.lemmas.Bool.{cases_Bool, ltb-true}
use Rattle.column.specs.declared.fault.Fault.TheVariants.{TooEarly}
use Rattle.column.specs.declared.column.Window.{Window}
use Rattle.column.specs.Cells.{view}
use Rattle.partition.specs.Table.{Frame}
use Rattle.run.specs.Shown.{end_of}
use Rattle.evaluator.specs.Meaning.{Partition, Alike, settles}
use Rattle.run.specs.Rows.{Handed, Asks, RowCall}
use Rattle.evaluator.proofs.Settles.{settled_no, settled_yes}
use Rattle.run.proofs.Seen.{seen_rows, seen_view, given_ok, given_early}
use Rattle.present.specs.declared.held.Held.{Held}
use Rattle.lead_lag.specs.declared.WindowShift.{WindowShift}
use Rattle.lead_lag.specs.declared.offset.Way.{Way}
use Rattle.lead_lag.specs.declared.rows.Look.{Look}
use Rattle.lead_lag.specs.declared.offset.Way.TheVariants.{Own, Back, Ahead}
use Rattle.present.specs.Present.{at, ahead, after}
use Rattle.lead_lag.specs.Offset.{way_of}
use Rattle.lead_lag.specs.Shift.{Proper, source_row, taken, shifted, reaches, mark_of, Holding, shift_meaning}
use Rattle.lead_lag.specs.Steps.{source_by, waits, held_after}
use Rattle.present.proofs.Ahead.{ahead-same, before_same, nth_has}
use Rattle.present.proofs.Counting.{counted-source}
use Rattle.present.proofs.Found.{found-source, found-between}
use Rattle.lead_lag.specs.Fronts.{way_proper, taken_same, Front, front_take, source_front}
use Rattle.lead_lag.proofs.Holds.{holds_after, mark_below, mark_rises}

is_some_cond : (b : Bool) (x : ℕ) → is_some (cond b (Some x) None) ≡ b
is_some_cond true x = refl
is_some_cond false x = refl

-- looking ahead, the first rows reach far enough exactly if they have the source row
reaches-source : {V : Type 0} (m : ℕ) (ignoring : Bool) (xs : List (Option V)) (i : ℕ) → 0 < m → is_some (source_row (Ahead m) ignoring xs i) ≡ reaches (Ahead m) ignoring xs i
reaches-source m false xs i p = is_some_cond (ltb (i + m) (length xs)) (i + m)
reaches-source m true xs i p = nth_has (after xs i) m p

-- the source row by what is held and shown lies from the mark on and below the end
source_low : {V : Type 0} (way : Way) (ignoring : Bool) (h : Held) (rows : List (Option V)) (f : ℕ → Option V) (i a : ℕ) → Proper way → Holding way ignoring h rows i → i < a → (r : ℕ) → source_by way ignoring h f i a ≡ Some r → (mark_of way ignoring h ≤ r) × (r < a)
source_low Own false h rows f i a p d l r e = let s = same_Some i r e in (omega (arith, d.next_row), omega arith)
source_low Own true h rows f i a p d l r e = let s = same_Some i r e in (omega (arith, d.next_row), omega arith)
source_low (Back m) false h rows f i a p d l r e = let s = (cond_some (leb m i) (i - m) r e).1 in (omega (arith, d.next_row), omega arith)
source_low (Back m) true h rows f i a p d l r e =
    let t : mark_of (Back m) true h ≡ r = ap (λ (o : Option ℕ). unwrap_or o 0) e in
    (omega (arith, t), omega (arith, t, mark_below (Back m) true h rows i p d))
source_low (Ahead m) false h rows f i a p d l r e = let s = cond_some (ltb (i + m) a) (i + m) r e in (omega (arith, d.next_row, s.1), omega (arith, s.1, ltb-true (i + m) a s.0))
source_low (Ahead m) true h rows f i a p d l r e = let s = found-between m h rows f i a l d.counts r e in (omega (arith, d.next_row, s.0), omega (arith, s.1))

-- it is that of the first rows
pub source_seen : {V : Type 0} (way : Way) (ignoring : Bool) (h : Held) (xs rows : List (Option V)) (f : ℕ → Option V) (i a : ℕ) → Proper way → Holding way ignoring h rows i → i < a → length xs ≡ a → Front xs rows → ((k : ℕ) → i ≤ k → k < a → f k ≡ at xs k) → source_by way ignoring h f i a ≡ source_row way ignoring xs i
source_seen Own false h xs rows f i a p d l n fr same = refl
source_seen Own true h xs rows f i a p d l n fr same = refl
source_seen (Back m) false h xs rows f i a p d l n fr same = refl
source_seen (Back m) true h xs rows f i a p d l n fr same = counted-source m h rows i p d.counts ∙ ap (λ (ys : List ℕ). slice_get ys (m - 1)) (before_same (at rows) (at xs) i (λ k u. sym (fr.same k (omega arith))))
source_seen (Ahead m) false h xs rows f i a p d l n fr same = ap (λ (x : ℕ). cond (ltb (i + m) x) (Some (i + m)) None) (sym n)
source_seen (Ahead m) true h xs rows f i a p d l n fr same =
    found-source m h rows f i a l (omega (arith, fr.shorter)) (λ k u v. same k u v ∙ fr.same k (omega arith)) d.counts ∙ ap (λ (ys : List ℕ). slice_get ys (m - 1)) (sym (ahead-same (at xs) (at rows) (i + 1) (a - (i + 1)) (λ x u v. fr.same x (omega arith))) ∙ ap (λ (x : ℕ). ahead (at xs) (i + 1) (x - (i + 1))) (sym n))

-- it waits exactly if the first rows do not reach far enough and are not all
waits_is : {V : Type 0} (way : Way) (ignoring known : Bool) (xs : List (Option V)) (i : ℕ) → Proper way → waits way (source_row way ignoring xs i) known ≡ not (known || reaches way ignoring xs i)
waits_is Own ignoring true xs i p = refl
waits_is Own ignoring false xs i p = refl
waits_is (Back m) ignoring true xs i p = refl
waits_is (Back m) ignoring false xs i p = refl
waits_is (Ahead m) ignoring true xs i p = refl
waits_is (Ahead m) ignoring false xs i p = ap not (reaches-source m ignoring xs i p)

reached : (known b : Bool) → not (known || b) ≡ false → known ≡ false → b ≡ true
reached known b h k = grind (arith, nat_tests)

alike : {V : Type 0} (e : WindowShift V) (h : Held) → Alike (shift_meaning e) (shift_meaning (record { shift_offset = e.shift_offset; ignore_nulls = e.ignore_nulls; default_value = e.default_value; held = h }))
alike e h = record { answer = λ p i. refl; settled = λ rows frames known i. refl }

module _ {V : Type 0} (e : WindowShift V) (i : ℕ) (w : Window V) (frame : Frame) (known : Bool) (h : Handed false (shift_meaning e).keep w frame known) (l : i < end_of w) (p : Partition V) (q : Asks (shift_meaning e) false p i w frame known) where
  abbrev way : Way
  way = way_of e.shift_offset

  abbrev ignoring : Bool
  ignoring = e.ignore_nulls

  -- the partition's rows up to the window's end
  abbrev front : List (Option V)
  front = take (end_of w) p.rows

  abbrev source : Option ℕ
  source = source_by way ignoring e.held (view w) i (end_of w)

  agree : (k : ℕ) → w.begin ≤ k → k < end_of w → view w k ≡ at p.rows k
  agree = seen_view (shift_meaning e) false (shift_meaning e).keep i w frame known h p q

  long : length front ≡ end_of w
  long = seen_rows (shift_meaning e) false (shift_meaning e).keep i w frame known h p q

  low : mark_of way ignoring e.held ≤ i
  low = mark_below way ignoring e.held p.rows i (way_proper e.shift_offset) q.stands

  source_is : source ≡ source_row way ignoring front i
  source_is = source_seen way ignoring e.held front p.rows (view w) i (end_of w) (way_proper e.shift_offset) q.stands l long (front_take (end_of w) p.rows) (λ k u v. agree k (omega (arith, h.kept, low)) v ∙ sym ((front_take (end_of w) p.rows).same k (omega (arith, long))))

  waiting : waits way source known ≡ not (known || reaches way ignoring front i)
  waiting = ap (λ (s : Option ℕ). waits way s known) source_is ∙ waits_is way ignoring known front i (way_proper e.shift_offset)

  unsettled : waits way source known ≡ true → settles (shift_meaning e) p (end_of w) known i ≡ false
  unsettled y = settled_no i (length front) (known || reaches way ignoring front i) (sym waiting ∙ y)

  settled : waits way source known ≡ false → settles (shift_meaning e) p (end_of w) known i ≡ true
  settled y = settled_yes i (length front) (known || reaches way ignoring front i) (omega (arith, long)) (sym waiting ∙ y)

  source_whole : waits way source known ≡ false → source ≡ source_row way ignoring p.rows i
  source_whole y =
      source_is ∙ ⊎_elim
      (λ k. ap (λ xs. source_row way ignoring xs i) (take_all (end_of w) p.rows (omega (arith, q.total (subst T (sym k) tt)))))
      (λ k. source_front front p.rows (front_take (end_of w) p.rows) i (omega (arith, long)) way ignoring (way_proper e.shift_offset) (reached known (reaches way ignoring front i) (sym waiting ∙ y) k))
      (cases_Bool known)

  answer_is : waits way source known ≡ false → taken (view w) e.default_value source ≡ shifted way ignoring e.default_value p.rows i
  answer_is y =
      taken_same (view w) (at p.rows) e.default_value source (λ r s. let b = source_low way ignoring e.held p.rows (view w) i (end_of w) (way_proper e.shift_offset) q.stands l r s in agree r (omega (arith, h.kept, b.0)) b.1) ∙ ap (taken (at p.rows) e.default_value) (source_whole y)

  stands_on : waits way source known ≡ false → Holding way ignoring (held_after way ignoring e.held (view w) i (i + 1) source) p.rows (i + 1)
  stands_on y = holds_after way ignoring e.held p.rows i (view w) source (way_proper e.shift_offset) q.stands (λ k u v. agree k (omega (arith, h.kept)) (omega (arith, l))) (source_whole y)

-- a row call that is too early
pub early : {V : Type 0} (e : WindowShift V) (i : ℕ) (w : Window V) (frame : Frame) (known : Bool) → Handed false (shift_meaning e).keep w frame known → i < end_of w → waits (way_of e.shift_offset) (source_by (way_of e.shift_offset) e.ignore_nulls e.held (view w) i (end_of w)) known ≡ true → RowCall shift_meaning false i w frame known e e (Err (TooEarly i))
early e i w frame known h l y = record {
  alike = record { answer = λ p i. refl; settled = λ rows frames known i. refl };
  mark = omega arith;
  outcome = (refl, refl);
  given = λ p q. given_early (shift_meaning e) (shift_meaning e) p i _ (unsettled e i w frame known h l p q y);
}

-- a row call that answers
pub answers : {V : Type 0} (e : WindowShift V) (i : ℕ) (w : Window V) (frame : Frame) (known : Bool) → Handed false (shift_meaning e).keep w frame known → i < end_of w → waits (way_of e.shift_offset) (source_by (way_of e.shift_offset) e.ignore_nulls e.held (view w) i (end_of w)) known ≡ false → (x : Option V) → x ≡ taken (view w) e.default_value (source_by (way_of e.shift_offset) e.ignore_nulls e.held (view w) i (end_of w)) → (h' : Held) → h' ≡ held_after (way_of e.shift_offset) e.ignore_nulls e.held (view w) i (i + 1) (source_by (way_of e.shift_offset) e.ignore_nulls e.held (view w) i (end_of w)) → RowCall shift_meaning false i w frame known e (record { shift_offset = e.shift_offset; ignore_nulls = e.ignore_nulls; default_value = e.default_value; held = h' }) (Ok x)
answers {V} e i w frame known h l y x ex h' eh =
    let e' : WindowShift V = record { shift_offset = e.shift_offset; ignore_nulls = e.ignore_nulls; default_value = e.default_value; held = h' } in
    record {
      alike = alike e h';
      mark = subst (λ (k : Held). mark_of (way_of e.shift_offset) e.ignore_nulls e.held ≤ mark_of (way_of e.shift_offset) e.ignore_nulls k) (sym eh) (mark_rises (way_of e.shift_offset) e.ignore_nulls e.held (view w) i (i + 1) (source_by (way_of e.shift_offset) e.ignore_nulls e.held (view w) i (end_of w)));
      outcome = l;
      given = λ p q. given_ok (shift_meaning e) (shift_meaning e') p i _ x (settled e i w frame known h l p q y) (ex ∙ answer_is e i w frame known h l p q y) (subst (λ (k : Held). Holding (way_of e.shift_offset) e.ignore_nulls k p.rows (i + 1)) (sym eh) (stands_on e i w frame known h l p q y));
    }

-- where a shift looks
abbrev pub look_of : {V : Type 0} → WindowShift V → Look
look_of e = record { way = way_of e.shift_offset; ignore_nulls = e.ignore_nulls }

-- the same, by what the calls in the body returned
module _ {V : Type 0} (e : WindowShift V) (i : ℕ) (w : Window V) (frame : Frame) (known : Bool) (h : Handed false (shift_meaning e).keep w frame known) (l : i < end_of w) (z : Look) (ez : z ≡ look_of e) (s : Option ℕ) (es : s ≡ source_by z.way z.ignore_nulls e.held (view w) i (end_of w)) (b : Bool) (eb : b ≡ waits z.way s known) where
  source_at : s ≡ source_by (way_of e.shift_offset) e.ignore_nulls e.held (view w) i (end_of w)
  source_at = es ∙ ap (λ (x : Look). source_by x.way x.ignore_nulls e.held (view w) i (end_of w)) ez

  waits_at : b ≡ waits (way_of e.shift_offset) (source_by (way_of e.shift_offset) e.ignore_nulls e.held (view w) i (end_of w)) known
  waits_at = eb ∙ (ap (λ (x : Look). waits x.way s known) ez ∙ ap (λ (x : Option ℕ). waits (way_of e.shift_offset) x known) source_at)

  pub early_by : b ≡ true → RowCall shift_meaning false i w frame known e e (Err (TooEarly i))
  early_by y = early e i w frame known h l (sym waits_at ∙ y)

  pub answers_by : b ≡ false → (x : Option V) → x ≡ taken (view w) e.default_value s → (h' : Held) → h' ≡ held_after z.way z.ignore_nulls e.held (view w) i (i + 1) s → RowCall shift_meaning false i w frame known e (record { shift_offset = e.shift_offset; ignore_nulls = e.ignore_nulls; default_value = e.default_value; held = h' }) (Ok x)
  answers_by y x ex h' eh = answers e i w frame known h l (sym waits_at ∙ y) x (ex ∙ ap (taken (view w) e.default_value) source_at) h' (eh ∙ (ap (λ (k : Look). held_after k.way k.ignore_nulls e.held (view w) i (i + 1) s) ez ∙ ap (held_after (way_of e.shift_offset) e.ignore_nulls e.held (view w) i (i + 1)) source_at))
