-- The fields of a record, as far as they were read.
use Rattle.std.proofs.Common.{◌≡◌, ℕ, ◌+◌, ◌-◌, ◌⊎◌, List, [], ◌∷◌, ◌++◌, map, length, All, take, drop, Bor, refl, sym, ap, ◌∙◌, subst, append_assoc, append-nil, inl, inr, arith, length-append}
use Rattle.std.proofs.lemmas.List.{take_all, drop_all}
use Rattle.std.proofs.lemmas.List.Concat.{flat_map-append}
use Rattle.std.proofs.lemmas.List.Elements.{All-push}
use Rattle.std.proofs.Math.Seq.{take-append_seam}
use Rattle.std.specs.List.{join_with_byte}
use Rattle.table.specs.declared.field.Then.{Then}
use Rattle.table.specs.declared.field.Then.TheVariants.{Comma, Line, End}
use Rattle.table.specs.Fields.{Cuts, Field}
use Rattle.table.specs.Rows.{IsEnd, Leads, begun_text}

-- the text is these fields with commas, and the rest
pub record Begun (text : List ℕ) (at : ℕ) (rest : List ℕ) (old new : List (Bor (List ℕ))) : Type 0 where
  pub fields : List (Bor (List ℕ))
  pub pushed : new ≡ old ++ fields
  pub each : All (λ f. Field f.now) fields
  pub whole : text ≡ begun_text fields ++ rest
  pub place : at ≡ length (begun_text fields)

-- all but the last field of a record have a comma behind them
join_last : (fs : List (Bor (List ℕ))) (r : Bor (List ℕ)) → join_with_byte 44 (map (λ f. f.now) (fs ++ (r ∷ []))) ≡ begun_text fs ++ r.now
join_last [] r = refl
join_last (f ∷ []) r = sym (ap (λ l. l ++ r.now) (append-nil (f.now ++ (44 ∷ []))) ∙ append_assoc f.now (44 ∷ []) r.now)
join_last (f ∷ g ∷ fs) r =
    ap (λ l. f.now ++ (44 ∷ l)) (join_last (g ∷ fs) r)
    ∙ sym (append_assoc (f.now ++ (44 ∷ [])) (begun_text (g ∷ fs)) r.now ∙ append_assoc f.now (44 ∷ []) (begun_text (g ∷ fs) ++ r.now))

pub begun_more : (fs : List (Bor (List ℕ))) (r : Bor (List ℕ)) → begun_text (fs ++ (r ∷ [])) ≡ begun_text fs ++ (r.now ++ (44 ∷ []))
begun_more fs r = flat_map-append (λ (f : Bor (List ℕ)). f.now ++ (44 ∷ [])) fs (r ∷ []) ∙ ap (λ l. begun_text fs ++ l) (append-nil (r.now ++ (44 ∷ [])))

module _ (text : List ℕ) (at : ℕ) (rest : List ℕ) (old new pushed : List (Bor (List ℕ))) (raw : Bor (List ℕ)) (b : Begun text at rest old new) (p : pushed ≡ new ++ (raw ∷ [])) where
  all : pushed ≡ old ++ (b.fields ++ (raw ∷ []))
  all = p ∙ ap (λ l. l ++ (raw ∷ [])) b.pushed ∙ append_assoc old b.fields (raw ∷ [])

  -- a field more, and its comma
  pub comma_more : (then : Then) (after : Bor (List ℕ)) → Cuts rest raw.now then → then ≡ Comma after → Begun text (at + length raw.now + 1) after.now old pushed
  comma_more then after cut is =
      let a : cut.0 ≡ 44 ∷ after.now = rw is at cut.3 in
      record {
        fields = b.fields ++ (raw ∷ []);
        pushed = all;
        each = All-push (λ f. Field f.now) b.fields raw b.each cut.2;
        whole = b.whole ∙ ap (λ l. begun_text b.fields ++ l) (cut.1 ∙ ap (λ l. raw.now ++ l) a ∙ sym (append_assoc raw.now (44 ∷ []) after.now)) ∙ sym (append_assoc (begun_text b.fields) (raw.now ++ (44 ∷ [])) after.now) ∙ ap (λ l. l ++ after.now) (sym (begun_more b.fields raw));
        place = omega (arith, b.place, ap length (begun_more b.fields raw), length-append (begun_text b.fields) (raw.now ++ (44 ∷ [])), length-append raw.now (44 ∷ []));
      }

  front : List ℕ
  front = begun_text b.fields ++ raw.now

  cut_whole : (behind : List ℕ) → rest ≡ raw.now ++ behind → text ≡ front ++ behind
  unfolding front
  cut_whole behind e = b.whole ∙ ap (λ l. begun_text b.fields ++ l) e ∙ sym (append_assoc (begun_text b.fields) raw.now behind)

  front_len : at + length raw.now ≡ length front
  unfolding front
  front_len = omega (arith, b.place, length-append (begun_text b.fields) raw.now)

  -- the last field, and what ends the record
  pub row_ends : (end last : List ℕ) → (behind : List ℕ) → rest ≡ raw.now ++ behind → Field raw.now → behind ≡ end ++ last → IsEnd end last → (more : List (Bor (List ℕ))) × (pushed ≡ old ++ more) × Leads text (take (at + length raw.now) text) more last
  unfolding front
  row_ends end last behind e field b_is ends =
      let whole = cut_whole behind e in
      let taken : take (at + length raw.now) text ≡ front = ap (λ n. take n text) front_len ∙ ap (λ l. take (length front) l) whole ∙ take-append_seam front behind in (
        b.fields ++ (raw ∷ []),
        all,
        record {
          row = record {
            some = omega (arith, length-append b.fields (raw ∷ []));
            joined = taken ∙ sym (join_last b.fields raw);
            each = All-push (λ f. Field f.now) b.fields raw b.each field;
          };
          end = end;
          whole = whole ∙ ap (λ l. front ++ l) b_is ∙ ap (λ l. l ++ (end ++ last)) (sym taken);
          ends = ends;
        },
      )

  pub line_ends : (then : Then) (after : Bor (List ℕ)) → Cuts rest raw.now then → then ≡ Line after → (more : List (Bor (List ℕ))) × (pushed ≡ old ++ more) × Leads text (take (at + length raw.now) text) more after.now
  line_ends then after cut is =
      let a : (cut.0 ≡ 10 ∷ after.now) ⊎ (cut.0 ≡ 13 ∷ 10 ∷ after.now) = rw is at cut.3 in
      elim a [
        | inl e ↦ row_ends (10 ∷ []) after.now cut.0 cut.1 cut.2 e (inl refl)
        | inr e ↦ row_ends (13 ∷ 10 ∷ []) after.now cut.0 cut.1 cut.2 e (inr (inl refl))
      ]

  pub text_ends : (then : Then) (last : List ℕ) → Cuts rest raw.now then → then ≡ End → last ≡ take (length text - (at + length raw.now)) (drop (at + length raw.now) text) → (more : List (Bor (List ℕ))) × (pushed ≡ old ++ more) × Leads text text more last
  text_ends then last cut is l =
      let a : cut.0 ≡ [] = rw is at cut.3 in
      let whole : text ≡ front = cut_whole cut.0 cut.1 ∙ ap (λ l. front ++ l) a ∙ append-nil front in
      let many : at + length raw.now ≡ length text = front_len ∙ ap length (sym whole) in
      let none : last ≡ [] = l ∙ ap (λ n. take (length text - n) (drop n text)) many ∙ ap (λ l. take (length text - length text) l) (drop_all (length text) text (omega arith)) ∙ nothing (length text - length text) in
      let out = row_ends [] last cut.0 cut.1 cut.2 (a ∙ sym none) (inr (inr (refl, none))) in
      (out.0, out.1, subst (λ (t : List ℕ). Leads text t out.0 last) (ap (λ n. take n text) many ∙ take_all (length text) text (omega arith)) out.2)
    where
      nothing : (n : ℕ) → take {A = ℕ} n [] ≡ []
      nothing n = take_all n [] (omega arith)
