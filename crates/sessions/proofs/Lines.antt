-- A record more that says what its line says. Assumes nothing.
use Rattle.std.proofs.Common.{◌≡◌, ℕ, ◌+◌, ◌<◌, ◌≤◌, List, [], ◌∷◌, ◌++◌, length, get_or, Some, None, Option, IfSome, IsSomeAnd, Result, Ok, Err, MatchResult, zero, suc, refl, unwrap_or, sym, ap, subst, inl, inr, arith, Bor, MatchOption}
use Rattle.std.proofs.lemmas.List.{length_push, get_or_default}
use Rattle.std.proofs.lemmas.Result.{MatchResult-at_ok, MatchResult-at_err}
use Rattle.sessions.specs.declared.columns.Columns.{Columns}
use Rattle.sessions.specs.declared.record.Record.{Record}
use Rattle.sessions.specs.Reading.{Stripped, FromLine, FromHeader, Lines}
use Rattle.sessions.specs.Faults.{LineRefused, LinesRefused, Unread}
use Rattle.sessions.specs.declared.problem.Refusal.{Refusal}
use Rattle.sessions.specs.declared.problem.Refusal.TheVariants as refusals
use Rattle.sessions.proofs.Pushes.{each_push}

-- what stands where a text had the byte c at its end, or had not
pub stripped_by : (c : ℕ) (line r : Bor (List ℕ)) (o : Option (Bor (List ℕ))) → MatchOption o ((front : List ℕ) → line.now ≡ front ++ (c ∷ []) → ⊥) (λ x. line.now ≡ x.now ++ (c ∷ [])) → r ≡ unwrap_or o line → Stripped c line.now r.now
stripped_by c line r None h e = inr (ap (λ x. x.now) (sym e), h)
stripped_by c line r (Some x) h e = inl (subst (λ (y : Bor (List ℕ)). line.now ≡ y.now ++ (c ∷ [])) (sym e) h)

-- a text is refused with its lines below the header
pub below_refused : {text line : List ℕ} (top : Bor (List ℕ)) (below : List (Bor (List ℕ))) (c : Columns) → Lines text (top ∷ below) → Stripped 13 top.now line → FromHeader line c → (r : Refusal) → LinesRefused c below r → Unread text r
below_refused top below c lines first header refusals.Memory bad = tt
below_refused {line = line} top below c lines first header (refusals.At n p) bad = inr (inr (record { top = top; below = below; columns = c; header = line; lines_are = lines; first = first; header_read = header; row = bad }))

-- what the readings of the lines below the header gave, up to the first that was refused, that of line i of them
module _ (c : Columns) (ls : List (Bor (List ℕ))) (at : ℕ → Option (ℕ × Bor (Bor (List ℕ)))) (gave : ℕ → Option (Result Record Refusal)) (i : ℕ) {R : ℕ × Bor (Bor (List ℕ)) → Result Record Refusal → Type 0} (numbered : (j : ℕ) → IfSome (at j) (λ y. (y.0 ≡ j) × (y.1.now ≡ get_or ls j y.1.now))) (calls : (j : ℕ) → IfSome (gave j) (λ v. IsSomeAnd (at j) (λ y. R y v))) (says : (y : ℕ × Bor (Bor (List ℕ))) (v : Result Record Refusal) → R y v → MatchResult v (FromLine c y.1.now.now) (LineRefused c y.1.now.now (y.0 + 2))) (within : i < length ls) (read : (j : ℕ) → j < i → IsSomeAnd (gave j) (λ v. (r : Record) × (Ok r ≡ v))) where
  line_read : (j : ℕ) → j < length ls → (Q : Result Record Refusal → Type 0) → IsSomeAnd (gave j) Q → (v : Result Record Refusal) × Q v × (d : Bor (List ℕ)) × ((e : Bor (List ℕ)) → MatchResult v (FromLine c (get_or ls j e).now) (LineRefused c (get_or ls j e).now (j + 2)))
  line_read j h Q = here (gave j) (at j) (numbered j) (calls j)
    where
      here : (g : Option (Result Record Refusal)) (o : Option (ℕ × Bor (Bor (List ℕ)))) → IfSome o (λ y. (y.0 ≡ j) × (y.1.now ≡ get_or ls j y.1.now)) → IfSome g (λ v. IsSomeAnd o (λ y. R y v)) → IsSomeAnd g Q → (v : Result Record Refusal) × Q v × (d : Bor (List ℕ)) × ((e : Bor (List ℕ)) → MatchResult v (FromLine c (get_or ls j e).now) (LineRefused c (get_or ls j e).now (j + 2)))
      here None o l t w = absurd w
      here (Some v) None l t w = absurd t
      here (Some v) (Some y) l t w = (v, w, y.1.now, λ e. rw (← get_or_default ls j y.1.now e h, ← l.1, ← l.0) (says y v t))

  row_at : (j : ℕ) → j < i → (r : Record) × ((e : Bor (List ℕ)) → FromLine c (get_or ls j e).now r)
  row_at j h =
      let w = line_read j (omega (arith, h, within)) _ (read j h) in
      (w.1.0, λ e. MatchResult-at_ok _ _ w.1.0 (sym w.1.1) (w.3 e))

  rows_before : (n : ℕ) → n ≤ i → (rows : List Record) × (length rows ≡ n) × ((k : ℕ) (d : Record) (e : Bor (List ℕ)) → k < n → FromLine c (get_or ls k e).now (get_or rows k d))
  rows_before zero h = ([], refl, λ k d e l. absurd (omega (arith, l)))
  rows_before (suc n) h =
      let old = rows_before n (omega (arith, h)) in
      let new = row_at n (omega (arith, h)) in (
        old.0 ++ (new.0 ∷ []),
        omega (arith, length_push old.0 new.0, old.1),
        λ k d e l. each_push (λ m r. FromLine c (get_or ls m e).now r) old.0 new.0 d n old.1 (λ m g. old.2 m d e g) (new.1 e) k (omega (arith, l)),
      )

  pub lines_refused : (r : Refusal) → IsSomeAnd (gave i) (λ v. Err r ≡ v) → LinesRefused c ls r
  lines_refused r bad =
      let w = line_read i within _ bad in
      here r w.2 (λ e. MatchResult-at_err _ _ r (sym w.1) (w.3 e))
    where
      here : (r : Refusal) → Bor (List ℕ) → ((e : Bor (List ℕ)) → LineRefused c (get_or ls i e).now (i + 2) r) → LinesRefused c ls r
      here refusals.Memory d f = tt
      here (refusals.At n p) d f =
          let before = rows_before i (omega arith) in
          record {
            rows = before.0;
            rows_read = λ k d e h. before.2 k d e (omega (arith, h, before.1));
            place = omega (arith, (f d).0, before.1);
            within = omega (arith, (f d).0, within);
            fault = λ e. rw (before.1) (f e).1;
          }
