-- What is accepted is accepted turned.
use Rattle.std.proofs.Common.{◌≡◌, ℕ, ◌-◌, ◌<◌, ◌≤◌, Bool, true, false, cond, ◌&&◌, ◌||◌, ltb, List, [], ◌∷◌, map, reverse, length, get_or, Some, None, Option, sym, refl, ap, ◌∙◌, subst, ⊎_elim, arith}
use mathlib.Core.List.{reverse_aux}
use Rattle.std.proofs.lemmas.List.{length-map, length-reverse, get_or-map, get_or-reverse}
use Rattle.std.proofs.lemmas.Bool.{cases_lt, le-ltb}
use Rattle.std.proofs.lemmas.Bool.Decides.{nat_tests}
use Rattle.column.specs.declared.fault.Fault.{Fault}
use Rattle.column.specs.declared.fault.Fault.TheVariants.{Absent}
use Rattle.column.specs.Cells.{cells}
use Rattle.partition.specs.Peers.{Group, peers}
use Rattle.column.specs.Refusal.{row_limit, column_refusal}
use Rattle.partition.specs.Table.{Frame, Input, row_count, absent, unfit, differ, frames_fault, groups_fault, unless_absent, frames_refusal, groups_refusal, absent_refusal, output_refusal, whole_refusal}
use Rattle.evaluator.specs.Mirror.{turned, turned_frame, turned_groups}
use Rattle.column.proofs.Cells.{length-cells}
use Rattle.column.proofs.Columns.{column-says}
use Rattle.column.proofs.Exits.{no_first, next}
use Rattle.partition.proofs.Faults.{fault_none, fault_says}
use Rattle.partition.proofs.Accepted.{whole_says}
use Rattle.partition.proofs.Groups.{peers_some}

cells_aux : {V : Type 0} (vs ws : List V) (ms ns : List Bool) → length vs ≡ length ms → cells (reverse_aux vs ws) (reverse_aux ms ns) ≡ reverse_aux (cells vs ms) (cells ws ns)
cells_aux [] ws [] ns h = refl
cells_aux [] ws (m ∷ ms) ns h = absurd (omega arith)
cells_aux (v ∷ vs) ws [] ns h = absurd (omega arith)
cells_aux (v ∷ vs) ws (true ∷ ms) ns h = cells_aux vs (v ∷ ws) ms (true ∷ ns) (omega arith)
cells_aux (v ∷ vs) ws (false ∷ ms) ns h = cells_aux vs (v ∷ ws) ms (false ∷ ns) (omega arith)

-- the cells of a turned column are its cells turned
pub cells-turned : {V : Type 0} (vs : List V) (ms : List Bool) → length vs ≡ length ms → cells (reverse vs) (reverse ms) ≡ reverse (cells vs ms)
cells-turned vs ms h = cells_aux vs [] ms [] h

unless_none : {X : Type 0} (xs : List X) (f : ℕ → Fault) (place : Option ℕ) → place ≡ None → unless_absent xs f place ≡ None
unless_none [] f None e = refl
unless_none [] f (Some k) e = refl
unless_none (x ∷ xs) f None e = refl
unless_none (x ∷ xs) f (Some k) e = cc

pub unless_says : {X : Type 0} (x : X) (xs : List X) (f : ℕ → Fault) (place : Option ℕ) → unless_absent (x ∷ xs) f place ≡ None → place ≡ None
unless_says x xs f None e = refl
unless_says x xs f (Some k) e = cc

absent_by : {X : Type 0} (xs ys : List X) → length xs ≡ length ys → absent xs ≡ absent ys
absent_by [] [] h = refl
absent_by [] (y ∷ ys) h = absurd (omega arith)
absent_by (x ∷ xs) [] h = absurd (omega arith)
absent_by (x ∷ xs) (y ∷ ys) h = refl

turned_fit : (n : ℕ) (f : Frame) → unfit n f ≡ false → unfit n (turned_frame n f) ≡ false
turned_fit n f e = grind (arith, nat_tests)

-- the list of frames of n rows, turned
frames-accepted : (n : ℕ) (fs : List Frame) → frames_refusal n fs ≡ None → frames_refusal n (map (turned_frame n) (reverse fs)) ≡ None
frames-accepted n [] e = refl
frames-accepted n (f ∷ gs) e =
    let fs : List Frame = f ∷ gs in
    let ts : List Frame = map (turned_frame n) (reverse fs) in
    let s = fault_says (λ i. unfit n (get_or fs i (0, 0))) (length fs) n (unless_says f gs _ (frames_fault n fs) e) in
    let long : length ts ≡ length fs = length-map (reverse fs) (turned_frame n) ∙ length-reverse fs in
    let back : length (reverse fs) ≡ length fs = length-reverse fs in
    let at : (k : ℕ) → k < length ts → unfit n (get_or ts k (0, 0)) ≡ false = λ k h.
    let e1 : get_or ts k (0, 0) ≡ turned_frame n (get_or (reverse fs) k (0, 0)) = get_or-map (turned_frame n) (reverse fs) k (0, 0) (0, 0) (omega (arith, long, back)) in
    let e2 : get_or (reverse fs) k (0, 0) ≡ get_or fs (length fs - 1 - k) (0, 0) = get_or-reverse fs k (0, 0) (omega (arith, long)) in
    subst (λ (x : Frame). unfit n x ≡ false) (sym (e1 ∙ ap (turned_frame n) e2)) (turned_fit n (get_or fs (length fs - 1 - k) (0, 0)) (s.1 (length fs - 1 - k) (omega (arith, long)))) in
    unless_none ts _ (frames_fault n ts) (sym (fault_none (λ i. unfit n (get_or ts i (0, 0))) (length ts) n (omega (arith, long, s.0)) at))

same_group : (g : Group) → differ g g ≡ false
same_group g = grind (arith, nat_tests)

own_groups : (gs : List Group) (hs : List Group) (f : ℕ → Fault) → unless_absent (turned_groups gs hs) f (groups_fault (turned_groups gs hs) hs) ≡ None
own_groups [] hs f = refl
own_groups (g ∷ gs) hs f = unless_none hs f (groups_fault hs hs) (sym (fault_none (λ k. differ (get_or hs k (0, 0)) (get_or hs k (0, 0))) (length hs) (length hs) refl (λ k h. same_group (get_or hs k (0, 0)))))

absent-groups : (gs hs : List Group) → 0 < length hs → absent (turned_groups gs hs) ≡ absent gs
absent-groups [] hs h = refl
absent-groups (g ∷ gs) [] h = absurd (omega arith)
absent-groups (g ∷ gs) (x ∷ hs) h = refl

-- a call on a turned partition is accepted where one on the partition is
pub turned-accepted : {V : Type 0} (same : V → V → Bool) (wants_frames wants_groups : Bool) (x : Input V) (size : ℕ) → whole_refusal same wants_frames wants_groups x size ≡ None → whole_refusal same wants_frames wants_groups (turned same x) size ≡ None
turned-accepted same wf wg x size e =
    let p1 = no_first (column_refusal (length x.values) (length x.marks)) _ e in
    let p2 = no_first (frames_refusal (row_count x) x.frames) _ p1.1 in
    let p3 = no_first (groups_refusal x.groups (peers same (cells x.values x.marks))) _ p2.1 in
    let p4 = no_first (absent_refusal (row_count x) (wf && absent x.frames) (wg && absent x.groups)) (output_refusal (row_count x) size) p3.1 in
    let y = turned same x in
    let n = row_count x in
    let ps : List Group = peers same (cells (reverse x.values) (reverse x.marks)) in
    let c = column-says (length x.values) (length x.marks) p1.0 in
    let lv : length y.values ≡ length x.values = length-reverse x.values in
    let lm : length y.marks ≡ length x.marks = length-reverse x.marks in
    let q1 : column_refusal (length y.values) (length y.marks) ≡ None = rw (lv, lm) p1.0 in
    let q2 : frames_refusal (row_count y) y.frames ≡ None = rw lv (frames-accepted n x.frames p2.0) in
    let q3 : groups_refusal y.groups ps ≡ None = own_groups x.groups ps _ in
    let af : absent y.frames ≡ absent x.frames = absent_by y.frames x.frames (length-map (reverse x.frames) (turned_frame n) ∙ length-reverse x.frames) in
    let q4 : absent_refusal (row_count y) (wf && absent y.frames) (wg && absent y.groups) ≡ None = ⊎_elim
    (λ l. let long : length (cells (reverse x.values) (reverse x.marks)) ≡ length y.values = length-cells (reverse x.values) (reverse x.marks) (lv ∙ c.0 ∙ sym lm) in let ag : absent y.groups ≡ absent x.groups = absent-groups x.groups ps (peers_some same (cells (reverse x.values) (reverse x.marks)) (omega (arith, long, lv, l))) in rw (lv, af, ag) p4.0)
    (λ l. let z : ltb 0 (row_count y) ≡ false = le-ltb 0 (row_count y) (omega (arith, lv, l)) in ap (λ (b : Bool). cond (b && ((wf && absent y.frames) || (wg && absent y.groups))) (Some (Absent 0)) None) z)
    (cases_lt 0 n) in
    let q5 : output_refusal (row_count y) size ≡ None = rw lv p4.1 in
    next _ _ q1 ∙ next _ _ q2 ∙ next _ _ q3 ∙ next _ _ q4 ∙ q5

-- the frame of the row that row i becomes
pub frame-turned : (n : ℕ) (fs : List Frame) (i : ℕ) → length fs ≡ n → i < n → get_or (map (turned_frame n) (reverse fs)) (n - 1 - i) (0, 0) ≡ turned_frame n (get_or fs i (0, 0))
frame-turned n fs i e h =
    let back : length (reverse fs) ≡ length fs = length-reverse fs in
    let at : length fs - 1 - (n - 1 - i) ≡ i = omega arith in
    get_or-map (turned_frame n) (reverse fs) (n - 1 - i) (0, 0) (0, 0) (omega (arith, back)) ∙ ap (turned_frame n) (get_or-reverse fs (n - 1 - i) (0, 0) (omega arith) ∙ ap (λ (k : ℕ). get_or fs k (0, 0)) at)

-- the answers of a mirror, for an evaluator that looks at rows alone
pub rows-turned : {V A : Type 0} (same : V → V → Bool) (wf wg : Bool) (f g : List (Option V) → ℕ → A) → ((cs : List (Option V)) (i : ℕ) → i < length cs → length cs ≤ row_limit → g (reverse cs) (length cs - 1 - i) ≡ f cs i) → (x : Input V) (size : ℕ) → whole_refusal same wf wg x size ≡ None → (i : ℕ) → i < row_count x → g (cells (reverse x.values) (reverse x.marks)) (row_count x - 1 - i) ≡ f (cells x.values x.marks) i
rows-turned {V} same wf wg f g law x size ok i h =
    let a = whole_says same wf wg x size ok in
    let cs : List (Option V) = cells x.values x.marks in
    let long : length cs ≡ row_count x = length-cells x.values x.marks a.lengths in
    ap (λ (rows : List (Option V)). g rows (row_count x - 1 - i)) (cells-turned x.values x.marks a.lengths) ∙ ap (λ (n : ℕ). g (reverse cs) (n - 1 - i)) (sym long) ∙ law cs i (omega (arith, long)) (omega (arith, long, a.limited))
