-- A run on one partition: what it has answered so far, and where it stands.
use Rattle.std.proofs.Common.{◌≡◌, min, max, ◌*◌, inl, inr, ℕ, zero, suc, ◌+◌, ◌-◌, ◌<◌, ◌≤◌, ◌⊎◌, Bool, true, false, T, List, [], ◌∷◌, ◌++◌, map, length, take, drop, get_or, add-one, Some, None, Ok, Err, Option, Result, sym, refl, ap, ◌∙◌, subst, ⊎_elim, arith}
use Rattle.std.specs.List.{slice_get, range_with_len}
use Rattle.std.proofs.Math.Nat.{suc-mul}
use Rattle.std.proofs.Math.Seq.{get_or-append_seam}
use Rattle.std.proofs.lemmas.Bool.{cases_lt}
use Rattle.std.proofs.lemmas.List.{length_push, length-drop, length-take-le, get_or_append_left}
use Rattle.std.proofs.lemmas.List.FromFn.{map-range_with_len_more}
use Rattle.std.proofs.lemmas.Option.{same_Some, slice_get-get_or}
use Rattle.column.specs.declared.fault.Fault.{Fault}
use Rattle.column.specs.declared.column.Window.{Window}
use Rattle.column.specs.Cells.{cells}
use Rattle.column.proofs.Cells.{length-cells}
use Rattle.partition.specs.Table.{Frame, Input}
use Rattle.evaluator.specs.Meaning.{Partition, partition, Meaning, Alike, Laws}
use Rattle.run.specs.declared.progress.Progress.{Progress}
use Rattle.run.specs.Run.{Requested, Settled}
use Rattle.run.specs.Shown.{Shows, Framed, shown, frame_at, based}
use Rattle.run.proofs.Asks.{Kept}
use Rattle.replay.specs.declared.calls.Call.TheVariants.{Request, Settle}
use Rattle.replay.specs.History.{Marked}
use Rattle.replay.specs.Act.{noted, noted_done}
use Rattle.moving.specs.Moving.{ShownAt, ShownAll, reached}
use Rattle.replay.proofs.Steps.{Stays, Step, alike_refl, alike-step, step-request, step-settle}

-- i rows of the partition are answered
pub record Under {V A S : Type 0} (meaning : S → Meaning V A) (d e : S) (wants : Bool) (b : Progress) (t : Option ℕ) (p : Partition V) (z : Bool) (i : ℕ) : Type 0 where
  pub alike : Alike (meaning d) (meaning e)
  pub at : b.next ≡ i
  pub set : b.from_zero ≡ z
  pub kept : Kept p b t
  pub stands : (meaning e).stands (based b.from_zero p) b.next

-- one request more
module _ {V A S : Type 0} (meaning : S → Meaning V A) (law : (e : S) → Laws (meaning e)) (d : S) (wants : Bool) (t : Option ℕ) (w : Window V) (f : Option Frame) (e e' : S) (b b' : Progress) (p : Partition V) (z : Bool) (i : ℕ) (fr : Framed wants p) (u : Under meaning d e wants b t p z i) (shows : Shows p w.begin (shown w) × (T wants → b.next < length p.rows → f ≡ Some (frame_at p b.next))) where
  pub asked_ok : (x : A) → Requested meaning wants t w f e e' b b' (Ok x) → (x ≡ (meaning d).answer p i) × Under meaning d e' wants b' t p z (i + 1)
  asked_ok x r =
      let y : Step (meaning e) (meaning e') wants b t (meaning e).keep (Request w f) (noted (Ok x)) b' = step-request meaning law wants b t w f e e' b' (noted (Ok x)) (Ok x, r, refl) in
      let s : Stays (meaning e) (meaning e') wants p b t (meaning e).keep (Request w f) (noted (Ok x)) = y.stays p fr u.kept u.stands (λ h. shows) in (
        s.whole.answer x refl ∙ (u.alike.answer p b.next ∙ ap (λ (k : ℕ). (meaning d).answer p k) u.at),
        record {
          alike = alike-step (meaning d) (meaning e) (meaning e') u.alike y.alike;
          at = ap (λ (k : Progress). k.next) y.progress ∙ ap (λ (k : ℕ). k + 1) u.at;
          set = ap (λ (k : Progress). k.from_zero) y.progress ∙ u.set;
          kept = subst (λ (k : Progress). Kept p k t) (sym y.progress) s.kept;
          stands = subst (λ (k : Progress). (meaning e').stands (based k.from_zero p) k.next) (sym y.progress) s.stands;
        },
      )

  pub asked_err : (x : Fault) → Requested meaning wants t w f e e' b b' (Err x) → Under meaning d e' wants b' t p z i
  asked_err x r =
      let y : Step (meaning e) (meaning e') wants b t (meaning e).keep (Request w f) (noted {A = A} (Err x)) b' = step-request meaning law wants b t w f e e' b' (noted {A = A} (Err x)) (Err x, r, refl) in
      let s : Stays (meaning e) (meaning e') wants p b t (meaning e).keep (Request w f) (noted {A = A} (Err x)) = y.stays p fr u.kept u.stands (λ h. shows) in
      record {
        alike = alike-step (meaning d) (meaning e) (meaning e') u.alike y.alike;
        at = ap (λ (k : Progress). k.next) y.progress ∙ omega (arith, u.at);
        set = ap (λ (k : Progress). k.from_zero) y.progress ∙ u.set;
        kept = subst (λ (k : Progress). Kept p k t) (sym y.progress) s.kept;
        stands = subst (λ (k : Progress). (meaning e').stands (based k.from_zero p) k.next) (sym y.progress) s.stands;
      }

-- a total that is the number of rows may become known
pub under_total : {V A S : Type 0} (meaning : S → Meaning V A) (d e e' : S) (wants : Bool) (b b' : Progress) (t t' : Option ℕ) (p : Partition V) (z : Bool) (i n : ℕ) → length p.rows ≡ n → Under meaning d e wants b t p z i → e' ≡ e → b' ≡ b → (t' ≡ t) ⊎ (t' ≡ Some n) → Under meaning d e' wants b' t' p z i
under_total {V = V} meaning d e e' wants b b' t t' p z i n long u ee eb et = record {
  alike = subst (λ x. Alike (meaning d) (meaning x)) (sym ee) u.alike;
  at = ap (λ (k : Progress). k.next) eb ∙ u.at;
  set = ap (λ (k : Progress). k.from_zero) eb ∙ u.set;
  kept = subst (λ (k : Progress). Kept p k t') (sym eb) (record {
    last = u.kept.last;
    ordered = u.kept.ordered;
    zero = u.kept.zero;
    sized = λ m q. ⊎_elim (λ l. u.kept.sized m (sym l ∙ q)) (λ r. long ∙ same_Some n m (sym r ∙ q)) et;
  });
  stands = subst (λ (k : Progress). (meaning e').stands (based k.from_zero p) k.next) (sym eb) (subst (λ x. (meaning x).stands (based b.from_zero p) b.next) (sym ee) u.stands);
}

-- the cells of a part are a part of the cells
cells_drop : {V : Type 0} (k : ℕ) (vs : List V) (ms : List Bool) → length vs ≡ length ms → cells (drop k vs) (drop k ms) ≡ drop k (cells vs ms)
cells_drop zero vs ms h = refl
cells_drop (suc k) [] [] h = refl
cells_drop (suc k) [] (m ∷ ms) h = absurd (omega arith)
cells_drop (suc k) (v ∷ vs) [] h = absurd (omega arith)
cells_drop (suc k) (v ∷ vs) (true ∷ ms) h = cells_drop k vs ms (omega arith)
cells_drop (suc k) (v ∷ vs) (false ∷ ms) h = cells_drop k vs ms (omega arith)

cells_take : {V : Type 0} (k : ℕ) (vs : List V) (ms : List Bool) → cells (take k vs) (take k ms) ≡ take k (cells vs ms)
cells_take zero vs ms = refl
cells_take (suc k) [] ms = refl
cells_take (suc k) (v ∷ vs) [] = refl
cells_take (suc k) (v ∷ vs) (true ∷ ms) = ap (λ xs. Some v ∷ xs) (cells_take k vs ms)
cells_take (suc k) (v ∷ vs) (false ∷ ms) = ap (λ xs. None ∷ xs) (cells_take k vs ms)

-- so a part of the column shows the partition
pub part_shows : {V : Type 0} (x : Input V) (wants : Bool) (w : Window V) (begin end : ℕ) → length x.values ≡ length x.marks → begin ≤ end → end ≤ length x.values → w.begin ≡ begin → w.rows.values.now ≡ take (end - begin) (drop begin x.values) → w.rows.marks.now ≡ take (end - begin) (drop begin x.marks) → Shows (partition wants x) w.begin (shown w)
part_shows x wants w begin end h o l eb ev em =
    let k : ℕ = end - begin in
    let cs = cells x.values x.marks in
    let all : length cs ≡ length x.values = length-cells x.values x.marks h in
    let is : shown w ≡ take k (drop begin cs) = ap (λ vs. cells vs w.rows.marks.now) ev ∙ (ap (λ ms. cells (take k (drop begin x.values)) ms) em ∙ (cells_take k (drop begin x.values) (drop begin x.marks) ∙ ap (take k) (cells_drop begin x.values x.marks h))) in
    let long : length (shown w) ≡ k = ap length is ∙ length-take-le k (drop begin cs) (omega (arith, length-drop begin cs, all)) in
    record {
      within = omega (arith, long, eb, all);
      same = is ∙ (ap (λ (m : ℕ). take m (drop begin cs)) (sym long) ∙ ap (λ (m : ℕ). take (length (shown w)) (drop m cs)) (sym eb));
    }

-- the frame that is handed over is the row's
pub frame_there : {V : Type 0} (x : Input V) (wants : Bool) (f : Option Frame) (i k : ℕ) → length x.values ≡ length x.marks → (wants ≡ true → length x.frames ≡ length x.values) → f ≡ slice_get x.frames k → i ≡ k → T wants → i < length (cells x.values x.marks) → f ≡ Some (frame_at (partition wants x) i)
frame_there x true f i k h fr e at t l = e ∙ (ap (slice_get x.frames) (sym at) ∙ slice_get-get_or x.frames i (0, 0) (omega (arith, fr refl, length-cells x.values x.marks h)))
frame_there x false f i k h fr e at t l = absurd t

pub framed_of : {V : Type 0} (wants : Bool) (x : Input V) → length x.values ≡ length x.marks → (wants ≡ true → length x.frames ≡ length x.values) → Framed wants (partition wants x)
framed_of true x h fr = fr refl ∙ sym (length-cells x.values x.marks h)
framed_of false x h fr = refl

-- one answer more
pub one_more : {A : Type 0} (f : ℕ → A) (xs ys : List A) (a : A) → ys ≡ xs ++ a ∷ [] → xs ≡ map f (range_with_len 0 (length xs)) → a ≡ f (length xs) → ys ≡ map f (range_with_len 0 (length ys))
one_more f xs ys a e h q =
    let n : length ys ≡ length xs + 1 = ap length e ∙ length_push xs a in
    e ∙ (ap (λ zs. zs ++ a ∷ []) h ∙ (ap (λ y. map f (range_with_len 0 (length xs)) ++ y ∷ []) q ∙ (sym (map-range_with_len_more f 0 (length xs) (length xs) (omega arith)) ∙ ap (λ (k : ℕ). map f (range_with_len 0 k)) (sym n))))

-- the keep mark that was found is that of an evaluator that stands at the row
pub marked_of : {V A S : Type 0} (meaning : S → Meaning V A) (d e : S) (wants : Bool) (b : Progress) (t : Option ℕ) (p : Partition V) (z : Bool) (i mark : ℕ) → Under meaning d e wants b t p z i → mark ≡ (meaning e).keep → Marked meaning d (based z p) i mark
marked_of meaning d e wants b t p z i mark u k = record {
  at = e;
  alike = u.alike;
  stands = subst (λ (y : Bool). (meaning e).stands (based y p) i) u.set (subst (λ (n : ℕ). (meaning e).stands (based b.from_zero p) n) u.at u.stands);
  keeps = k;
}

-- what was shown so far: of i rows
pub record Shows-so-far {V A S : Type 0} (meaning : S → Meaning V A) (d : S) (p : Partition V) (z : Bool) (step i : ℕ) (shown : List Frame) (early end : ℕ) : Type 0 where
  pub as_many : length shown ≡ i
  pub each : (k : ℕ) → k < i → ShownAt meaning d p z step k (get_or shown k (0, 0))
  pub ends : end ≡ reached (length p.rows) step early
  pub few : early ≤ end
  pub last : (i < length p.rows) ⊎ ((get_or shown (i - 1) (0, 0)).1 ≡ end)

module _ {V A S : Type 0} (meaning : S → Meaning V A) (d : S) (p : Partition V) (z : Bool) (step i : ℕ) (shown : List Frame) (early end : ℕ) (s : Shows-so-far meaning d p z step i shown early end) where
  -- one row more
  pub shown_more : (shown' : List Frame) (mark begin : ℕ) → Marked meaning d (based z p) i mark → begin ≡ min mark end → shown' ≡ shown ++ (begin, end) ∷ [] → Shows-so-far meaning d p z step (i + 1) shown' early end
  shown_more shown' mark begin m b e =
      let here : get_or shown' i (0, 0) ≡ (begin, end) = ap (λ xs. get_or xs i (0, 0)) e ∙ (ap (λ (k : ℕ). get_or (shown ++ (begin, end) ∷ []) k (0, 0)) (sym s.as_many) ∙ get_or-append_seam shown (begin, end) [] (0, 0)) in
      record {
        as_many = ap length e ∙ (length_push shown (begin, end) ∙ ap (λ (k : ℕ). k + 1) s.as_many);
        each = λ k l. ⊎_elim
            (λ lt. subst (ShownAt meaning d p z step k) (sym (ap (λ xs. get_or xs k (0, 0)) e ∙ get_or_append_left shown ((begin, end) ∷ []) (0, 0) k (omega (arith, s.as_many)))) (s.each k lt))
            (λ ge. let q : i ≡ k = omega arith in subst (λ (x : ℕ). ShownAt meaning d p z step x (get_or shown' x (0, 0))) q (subst (ShownAt meaning d p z step i) (sym here) (record { mark = mark; marked = m; begins = b; steps = early; ends = s.ends })))
            (cases_lt k i);
        ends = s.ends;
        few = s.few;
        last = let q : i + 1 - 1 ≡ i = omega arith in inr (ap (λ (k : ℕ). (get_or shown' k (0, 0)).1) q ∙ ap (λ (x : Frame). x.1) here);
      }

  -- one step more
  pub shown_step : (early' end' : ℕ) → i < length p.rows → end < length p.rows → early' ≡ early + 1 → end' ≡ min (end + max step 1) (length p.rows) → Shows-so-far meaning d p z step i shown early' end'
  shown_step early' end' l lt e q =
      let taken : early * max step 1 ≡ end = omega (arith, s.ends) in
      let grown : early' * max step 1 ≡ early * max step 1 + max step 1 = ap (λ (k : ℕ). k * max step 1) (e ∙ add-one early) ∙ suc-mul early (max step 1) in
      record {
        as_many = s.as_many;
        each = s.each;
        ends = q ∙ ap (λ (x : ℕ). min x (length p.rows)) (ap (λ (k : ℕ). k + max step 1) (sym taken) ∙ sym grown);
        few = omega (arith, s.few, e, q);
        last = inl l;
      }

  -- all rows
  pub shown_all : i ≡ length p.rows → ShownAll meaning d p z step shown early
  shown_all q = record {
    as_many = s.as_many ∙ q;
    each = λ k l. s.each k (omega arith);
    last = ap (λ (k : ℕ). (get_or shown (k - 1) (0, 0)).1) (sym q) ∙ (⊎_elim (λ lt. absurd (omega arith)) (λ h. h) s.last ∙ s.ends);
  }

-- settling leaves it where it is
module _ {V A S : Type 0} (meaning : S → Meaning V A) (d : S) (wants : Bool) (t : Option ℕ) (e e' : S) (b b' : Progress) (p : Partition V) (z : Bool) (i : ℕ) (fr : Framed wants p) (u : Under meaning d e wants b t p z i) (eb : b' ≡ b) where
  settled_same : (k : ℕ) → k ≡ b.next → (meaning e').stands (based b.from_zero p) k → Alike (meaning e) (meaning e') → Under meaning d e' wants b' t p z i
  settled_same k q st a = record {
    alike = alike-step (meaning d) (meaning e) (meaning e') u.alike a;
    at = ap (λ (k : Progress). k.next) eb ∙ u.at;
    set = ap (λ (k : Progress). k.from_zero) eb ∙ u.set;
    kept = subst (λ (k : Progress). Kept p k t) (sym eb) u.kept;
    stands = subst (λ (k : Progress). (meaning e').stands (based k.from_zero p) k.next) (sym eb) (subst (λ (n : ℕ). (meaning e').stands (based b.from_zero p) n) q st);
  }

  settled_by : (r : Result (Unit {0}) Fault) → Settled meaning wants b e e' r → Under meaning d e' wants b' t p z i
  settled_by (Ok x) a =
      let y : Step (meaning e) (meaning e') wants b t (meaning e).keep Settle (noted_done {A = A} (Ok x)) b' = step-settle meaning wants b t e e' b' (noted_done {A = A} (Ok x)) (Ok x, a, refl, eb) in
      let s : Stays (meaning e) (meaning e') wants p b t (meaning e).keep Settle (noted_done {A = A} (Ok x)) = y.stays p fr u.kept u.stands tt in
      settled_same (b.next + 0) (omega arith) s.stands y.alike
  settled_by (Err f) a =
      let y : Step (meaning e) (meaning e') wants b t (meaning e).keep Settle (noted_done {A = A} (Err f)) b' = step-settle meaning wants b t e e' b' (noted_done {A = A} (Err f)) (Err f, a, refl, eb) in
      let s : Stays (meaning e) (meaning e') wants p b t (meaning e).keep Settle (noted_done {A = A} (Err f)) = y.stays p fr u.kept u.stands tt in
      settled_same (b.next + 0) (omega arith) s.stands y.alike

  pub settled_under : (wanted : Bool) (r : Result (Unit {0}) Fault) → (wanted ≡ false → e' ≡ e) → (wanted ≡ true → Settled meaning wants b e e' r) → Under meaning d e' wants b' t p z i
  settled_under true r h k = settled_by r (k refl)
  settled_under false r h k =
      let q = h refl in
      settled_same b.next refl (subst (λ x. (meaning x).stands (based b.from_zero p) b.next) (sym q) u.stands) (subst (λ x. Alike (meaning e) (meaning x)) (sym q) (alike_refl (meaning e)))
