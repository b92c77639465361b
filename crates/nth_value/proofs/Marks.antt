-- The mark before any settling, and where all frames begin at 0.
use Rattle.std.proofs.Common.{◌≡◌, ℕ, zero, suc, ◌-◌, ◌≤◌, Bool, true, false, List, [], ◌∷◌, ℤ, pos, negsuc, Option, unwrap_or, refl, ap, ◌∙◌, arith}
use Rattle.std.proofs.lemmas.Bool.Decides.{nat_tests}
use Rattle.partition.specs.Table.{Frame}
use Rattle.nth_value.specs.declared.kind.NthValueKind.{NthValueKind}
use Rattle.nth_value.specs.declared.kind.NthValueKind.TheVariants.{First, Last, Nth}
use Rattle.nth_value.specs.declared.state.NthValueState.{NthValueState}
use Rattle.nth_value.specs.declared.NthValue.{NthValue}
use Rattle.nth_value.specs.Settling.{start, answered, settled_nth, settled_by, unsettled, Rising, last_start, MarkLaw}
use Rattle.nth_value.specs.Marks.{Step, request, settle, given, last_end, EndsRise, left_by, mark_by_nth, mark_by, mark_after, SettledMark}

marks_from : {V : Type 0} (h : NthValueState V) (s : ℕ) (xs : List (Option V × Frame)) → h.mark ≡ s → Rising s xs → (unsettled h xs).mark ≡ last_start s xs
marks_from h s [] e r = e
marks_from h s (x ∷ xs) e r = marks_from (answered h x.0 x.1) x.1.0 xs (omega (arith, e, r.0)) r.1

pub mark_law : {V : Type 0} → MarkLaw V
mark_law xs r = marks_from start 0 xs refl r

-- the highest mark that settling sets, with the last frame up to e
abbrev highest : NthValueKind → ℕ → ℕ
highest First e = e - 1
highest Last e = e - 1
highest (Nth (pos n)) e = e - 1
highest (Nth (negsuc n)) e = e - suc n

-- a mark no higher than that is the one set, or stays
nth_exact : {V : Type 0} (n : ℤ) (h : NthValueState V) (i e : ℕ) → h.mark ≤ highest (Nth n) e → (settled_nth n h i (0, e)).mark ≡ unwrap_or (mark_by_nth n i e) h.mark
nth_exact (pos zero) h i e l = refl
nth_exact (pos (suc n)) h i e l = grind (arith, nat_tests)
nth_exact (negsuc n) h i e l = grind (arith, nat_tests)

exact : {V : Type 0} (kind : NthValueKind) (ignoring : Bool) (h : NthValueState V) (i e : ℕ) → h.mark ≤ highest kind e → (settled_by kind ignoring h i (0, e)).mark ≡ unwrap_or (mark_by kind ignoring i e) h.mark
exact First ignoring h i e l = grind (arith, nat_tests)
exact Last false h i e l = omega (arith, l)
exact Last true h i e l = refl
exact (Nth n) false h i e l = nth_exact n h i e l
exact (Nth n) true h i e l = refl

nth_low : (n : ℤ) (i e m : ℕ) → m ≤ highest (Nth n) e → unwrap_or (mark_by_nth n i e) m ≤ highest (Nth n) e
nth_low (pos zero) i e m l = l
nth_low (pos (suc n)) i e m l = grind (arith, nat_tests)
nth_low (negsuc n) i e m l = grind (arith, nat_tests)

low : (kind : NthValueKind) (ignoring : Bool) (i e m : ℕ) → m ≤ highest kind e → unwrap_or (mark_by kind ignoring i e) m ≤ highest kind e
low First ignoring i e m l = grind (arith, nat_tests)
low Last false i e m l = omega arith
low Last true i e m l = l
low (Nth n) false i e m l = nth_low n i e m l
low (Nth n) true i e m l = l

highest_rises : (kind : NthValueKind) (d e : ℕ) → d ≤ e → highest kind d ≤ highest kind e
highest_rises First d e l = omega (arith, l)
highest_rises Last d e l = omega (arith, l)
highest_rises (Nth (pos n)) d e l = omega (arith, l)
highest_rises (Nth (negsuc n)) d e l = omega (arith, l)

-- after the steps: the same function, its mark as settling set it, no higher than settling now would
record After {V : Type 0} (e h : NthValue V) (xs : List (Step V)) : Type 0 where
  kind : h.kind ≡ e.kind
  ignore_nulls : h.ignore_nulls ≡ e.ignore_nulls
  mark : h.state.mark ≡ mark_after e.kind e.ignore_nulls xs
  low : mark_after e.kind e.ignore_nulls xs ≤ highest e.kind (last_end xs)

after : {V : Type 0} (e : NthValue V) → e.state.mark ≡ 0 → (xs : List (Step V)) → EndsRise xs → After e (left_by e xs) xs
after e z [] r = record { kind = refl; ignore_nulls = refl; mark = z; low = omega arith }
after e z (request w end ∷ xs) r =
    let a = after e z xs r.1 in
    record {
      kind = a.kind;
      ignore_nulls = a.ignore_nulls;
      mark = omega (arith, a.mark);
      low = omega (arith, a.low, highest_rises e.kind (last_end xs) end r.0);
    }
after {V} e z (settle ∷ xs) r =
    let a = after e z xs r in
    let h = left_by e xs in
    let k : (settled_by h.kind h.ignore_nulls h.state (given xs) (0, last_end xs)).mark ≡ (settled_by e.kind e.ignore_nulls h.state (given xs) (0, last_end xs)).mark = ap (λ (k : NthValueKind). (settled_by k h.ignore_nulls h.state (given xs) (0, last_end xs)).mark) a.kind ∙ ap (λ (b : Bool). (settled_by e.kind b h.state (given xs) (0, last_end xs)).mark) a.ignore_nulls in
    record {
      kind = a.kind;
      ignore_nulls = a.ignore_nulls;
      mark = k ∙ (exact e.kind e.ignore_nulls h.state (given xs) (last_end xs) (omega (arith, a.mark, a.low)) ∙ ap (unwrap_or (mark_by e.kind e.ignore_nulls (given xs) (last_end xs))) a.mark);
      low = low e.kind e.ignore_nulls (given xs) (last_end xs) (mark_after e.kind e.ignore_nulls xs) a.low;
    }

pub settled_mark : {V : Type 0} (e : NthValue V) → e.state ≡ start → SettledMark e
settled_mark e q xs r = (after e (ap (λ (h : NthValueState _). h.mark) q) xs r).mark
