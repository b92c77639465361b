-- The same function from the other end, on turned rows and frames.
use Rattle.std.proofs.Common.{◌≡◌, ℕ, zero, suc, ◌+◌, ◌-◌, ◌<◌, ◌≤◌, Bool, true, false, ◌⊎◌, List, [], ◌∷◌, map, reverse, length, get_or, ℤ, pos, negsuc, neg_ℤ, is_some, Some, None, Option, sym, refl, ap, ◌∙◌, inl, inr, ⊎_elim, arith, w64, SFits}
use mathlib.Core.List.{reverse_aux}
use Rattle.std.specs.Option.{option_map}
use Rattle.std.specs.List.{slice_get}
use Rattle.std.proofs.lemmas.List.{length-reverse, reverse-reverse}
use Rattle.std.proofs.lemmas.Option.{slice_get-map, slice_get_past}
use Rattle.column.specs.Cells.{cells}
use Rattle.column.specs.Refusal.{row_limit}
use Rattle.column.proofs.Cells.{length-cells}
use Rattle.partition.specs.Table.{Frame, Input, row_count, whole_refusal}
use Rattle.partition.proofs.Accepted.{whole_says}
use Rattle.evaluator.specs.Meaning.{partition}
use Rattle.evaluator.specs.Mirror.{turned, turned_frame}
use Rattle.evaluator.proofs.Opposites.{opposite_is}
use Rattle.evaluator.proofs.Turned.{cells-turned, frame-turned}
use Rattle.present.specs.Present.{at, ahead}
use Rattle.present.proofs.Turned.{turn, at_turned, ahead-turned, ahead_short}
use Rattle.nth_value.specs.declared.kind.NthValueKind.{NthValueKind}
use Rattle.nth_value.specs.declared.kind.NthValueKind.TheVariants.{First, Last, Nth}
use Rattle.nth_value.specs.declared.kind.Pick.{Pick}
use Rattle.nth_value.specs.declared.kind.Pick.TheVariants.{Nothing, FromStart, FromEnd}
use Rattle.nth_value.specs.Frames.{frame_rows, pick_nth, pick_of, picked, cell_of, value_in}
use Rattle.nth_value.specs.Nth.{nth_answer, turned_kind}
use Rattle.nth_value.specs.Spans.{full, span-full}
use Rattle.nth_value.specs.Local.{picked-within}

-- from the start becomes from the end
abbrev pub turned_pick : Pick → Pick
turned_pick Nothing = Nothing
turned_pick (FromStart m) = FromEnd m
turned_pick (FromEnd m) = FromStart m

stretch_turned : {V W : Type 0} (n : ℕ) (f : ℕ → Option V) (g : ℕ → Option W) → ((r : ℕ) → r < n → is_some (g (turn n r)) ≡ is_some (f r)) → (s e : ℕ) → s ≤ e → e ≤ n → ahead g (n - e) (n - s - (n - e)) ≡ map (turn n) (reverse (ahead f s (e - s)))
stretch_turned n f g same s e h l =
    let a : n - s - (n - e) ≡ e - s = omega arith in
    let b : s + (e - s) ≡ e = omega arith in
    ap (ahead g (n - e)) a ∙ (ap (λ (x : ℕ). ahead g (n - x) (e - s)) (sym b) ∙ ahead-turned n f g same s (e - s) (omega arith))

map_aux : (t : ℕ → ℕ) (xs ys : List ℕ) → map t (reverse_aux xs ys) ≡ reverse_aux (map t xs) (map t ys)
map_aux t [] ys = refl
map_aux t (x ∷ xs) ys = map_aux t xs (x ∷ ys)

reverse-map : (t : ℕ → ℕ) (xs : List ℕ) → reverse (map t (reverse xs)) ≡ map t xs
reverse-map t xs = ap reverse (map_aux t xs []) ∙ reverse-reverse (map t xs)

module _ {V : Type 0} (cs : List (Option V)) where
  abbrev n : ℕ
  n = length cs

  -- the rows of a frame, turned
  rows-turned : (ignoring : Bool) (s e : ℕ) → s ≤ e → e ≤ n → frame_rows ignoring (at (reverse cs)) (n - e, n - s) ≡ map (turn n) (reverse (frame_rows ignoring (at cs) (s, e)))
  rows-turned false s e h l = span-full (n - e) (n - s - (n - e)) ∙ (stretch_turned n full full (λ r u. refl) s e h l ∙ ap (λ (xs : List ℕ). map (turn n) (reverse xs)) (sym (span-full s (e - s))))
  rows-turned true s e h l = stretch_turned n (at cs) (at (reverse cs)) (λ r u. ap is_some (at_turned cs r u)) s e h l

  -- the row counted to
  pick_turned : (pick : Pick) (xs : List ℕ) → picked (turned_pick pick) (map (turn n) (reverse xs)) ≡ option_map (turn n) (picked pick xs)
  pick_turned Nothing xs = refl
  pick_turned (FromStart m) xs = ap (λ (ys : List ℕ). slice_get ys (m - 1)) (reverse-map (turn n) xs) ∙ slice_get-map (turn n) xs (m - 1)
  pick_turned (FromEnd m) xs = slice_get-map (turn n) (reverse xs) (m - 1)

  cell_turned : (o : Option ℕ) → ((r : ℕ) → o ≡ Some r → r < n) → cell_of (at (reverse cs)) (option_map (turn n) o) ≡ cell_of (at cs) o
  cell_turned None h = refl
  cell_turned (Some r) h = at_turned cs r (h r refl)

  -- the answer over a frame
  pub value_turned : (pick : Pick) (ignoring : Bool) (s e : ℕ) → s ≤ e → e ≤ n → value_in (turned_pick pick) ignoring (at (reverse cs)) (n - e, n - s) ≡ value_in pick ignoring (at cs) (s, e)
  value_turned pick ignoring s e h l =
      ap (λ (xs : List ℕ). cell_of (at (reverse cs)) (picked (turned_pick pick) xs)) (rows-turned ignoring s e h l) ∙ (ap (cell_of (at (reverse cs))) (pick_turned pick (frame_rows ignoring (at cs) (s, e))) ∙ cell_turned (picked pick (frame_rows ignoring (at cs) (s, e))) (λ r q. omega (arith, (picked-within pick ignoring (at cs) s e r q).1)))

-- the smallest number is its own opposite, and counts further than any partition has rows
abbrev far : ℕ
far = 9223372036854775808

rows_short : {V : Type 0} (ignoring : Bool) (f : ℕ → Option V) (s e : ℕ) → length (frame_rows ignoring f (s, e)) ≤ e
rows_short false f s e = omega (arith, ap length (span-full s (e - s)), ahead_short full s (e - s))
rows_short true f s e = omega (arith, ahead_short f s (e - s))

far_none : {V : Type 0} (ignoring : Bool) (f : ℕ → Option V) (s e : ℕ) → e ≤ row_limit → value_in (FromEnd far) ignoring f (s, e) ≡ None
far_none ignoring f s e h =
    let xs : List ℕ = frame_rows ignoring f (s, e) in
    ap (cell_of f) (slice_get_past (reverse xs) (far - 1) (omega (arith, length-reverse xs, rows_short ignoring f s e)))

negated_nth : (z : ℤ) → pick_nth (neg_ℤ z) ≡ turned_pick (pick_nth z)
negated_nth (pos zero) = refl
negated_nth (pos (suc n)) = refl
negated_nth (negsuc n) = refl

pick_opposite : (kind : NthValueKind) → ((z : ℤ) → kind ≡ Nth z → SFits w64 z) → (pick_of (turned_kind kind) ≡ turned_pick (pick_of kind)) ⊎ ((pick_of (turned_kind kind) ≡ FromEnd far) × (pick_of kind ≡ FromEnd far))
pick_opposite First f = inl refl
pick_opposite Last f = inl refl
pick_opposite (Nth z) f = ⊎_elim
    (λ e. inl (ap pick_nth e ∙ negated_nth z))
    (λ e. inr (ap pick_nth (e.1 ∙ e.0), ap pick_nth e.0))
    (opposite_is z (f z refl))

-- the mirror's answer at row n - 1 - i of the turned partition is the evaluator's at row i
pub nth-turned : {V : Type 0} (same : V → V → Bool) (kind : NthValueKind) (ignoring : Bool) → ((z : ℤ) → kind ≡ Nth z → SFits w64 z) → (x : Input V) (size : ℕ) → whole_refusal same true false x size ≡ None → (i : ℕ) → i < row_count x → nth_answer (pick_of (turned_kind kind)) ignoring (partition true (turned same x)) (row_count x - 1 - i) ≡ nth_answer (pick_of kind) ignoring (partition true x) i
nth-turned {V} same kind ignoring fits x size ok i h =
    let a = whole_says same true false x size ok in
    let cs : List (Option V) = cells x.values x.marks in
    let long : length cs ≡ row_count x = length-cells x.values x.marks a.lengths in
    let f : Frame = get_or x.frames i (0, 0) in
    let fit = a.fit i (omega (arith, a.framed refl)) in
    let there : Pick = pick_of (turned_kind kind) in
    let here : Pick = pick_of kind in
    let moved : nth_answer there ignoring (partition true (turned same x)) (row_count x - 1 - i) ≡ value_in there ignoring (at (reverse cs)) (length cs - f.1, length cs - f.0) =
    ap (λ (rows : List (Option V)). value_in there ignoring (at rows) (get_or (map (turned_frame (row_count x)) (reverse x.frames)) (row_count x - 1 - i) (0, 0))) (cells-turned x.values x.marks a.lengths)
    ∙ (ap (value_in there ignoring (at (reverse cs))) (frame-turned (row_count x) x.frames i (a.framed refl) h)
    ∙ ap (λ (n : ℕ). value_in there ignoring (at (reverse cs)) (n - f.1, n - f.0)) (sym long)) in
    moved ∙ ⊎_elim
    (λ e. ap (λ (p : Pick). value_in p ignoring (at (reverse cs)) (length cs - f.1, length cs - f.0)) e ∙ value_turned cs here ignoring f.0 f.1 fit.0 (omega (arith, fit.1, long)))
    (λ e. ap (λ (p : Pick). value_in p ignoring (at (reverse cs)) (length cs - f.1, length cs - f.0)) e.0 ∙ (far_none ignoring (at (reverse cs)) (length cs - f.1) (length cs - f.0) (omega (arith, long, a.limited)) ∙ sym (ap (λ (p : Pick). value_in p ignoring (at cs) f) e.1 ∙ far_none ignoring (at cs) f.0 f.1 (omega (arith, fit.1, a.limited)))))
    (pick_opposite kind fits)
