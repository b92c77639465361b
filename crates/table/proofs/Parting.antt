-- The records before a byte, and those behind it.
use Rattle.std.proofs.Common.{◌≡◌, ℕ, ◌+◌, ◌-◌, ◌<◌, ◌≤◌, List, [], ◌∷◌, ◌++◌, map, length, take, drop, get_or, Bor, refl, sym, ap, ◌∙◌, subst, append_assoc, arith, length-append}
use Rattle.std.proofs.Math.Seq.{drop-append_seam, get_or-append_seam}
use Rattle.std.proofs.lemmas.List.{length-drop, length-map, map-append, take_all}
use Rattle.std.specs.List.{flat_map}
use Rattle.table.proofs.Sofar.{reads_more}
use Rattle.table.specs.FieldPlaces.{Parted}
use Rattle.table.specs.Rows.{IsEnd, Leads}
use Rattle.table.specs.Tables.{Entry, IsBody, ReadsTo}

pub parted_first : {body : List ℕ} {width : ℕ} {records fields : List (Bor (List ℕ))} → IsBody body width records fields → Parted body width records fields 0 0
parted_first {body = body} b = record {
  rows = [];
  more = b.rows;
  rest = body;
  many = refl;
  before = refl;
  after = b.read;
  records_are = b.records_are;
  fields_are = b.fields_are;
  front = [];
  whole = refl;
  at_is = refl;
}

pub end_is : (body : List ℕ) (at : ℕ) (rest : List ℕ) → drop at body ≡ rest → take (length body - at) (drop at body) ≡ rest
end_is body at rest e = take_all (length body - at) (drop at body) (omega (arith, length-drop at body)) ∙ e

-- one record more, and its end
pub record Step (body : List ℕ) (width : ℕ) (records fields : List (Bor (List ℕ))) (number at : ℕ) (raw : List ℕ) : Type 0 where
  pub end : List ℕ
  pub behind : List ℕ
  pub ends : IsEnd end behind
  pub left : drop (at + length raw) body ≡ end ++ behind
  pub fits : at + length raw + length end ≤ length body
  pub next : Parted body width records fields (number + 1) (at + length raw + length end)

module _ (body : List ℕ) (width : ℕ) (records fields : List (Bor (List ℕ))) (number at : ℕ) where
  step_at : (rows more : List Entry) (rest front : List ℕ) → length rows ≡ number → ReadsTo width body rows rest → ReadsTo width rest more [] → records ≡ map (λ e. e.raw) (rows ++ more) → fields ≡ flat_map (λ e. e.fields) (rows ++ more) → body ≡ front ++ rest → at ≡ length front → (d : Bor (List ℕ)) → number < length records → Step body width records fields number at (get_or records number d).now
  step_at rows [] rest front many before after r f whole a d h = absurd (omega (arith, ap length r, length-map (rows ++ []) (λ (e : Entry). e.raw), length-append rows [], many))
  step_at rows (e ∷ es) rest front many before after r f whole a d h =
      let behind : List ℕ = after.2.0 in
      let leads : Leads rest e.raw.now e.fields behind = after.2.1 in
      let end : List ℕ = leads.end in
      let raw : List ℕ = e.raw.now in
      let here : get_or records number d ≡ e.raw = ap (λ l. get_or l number d) (r ∙ map-append (λ (x : Entry). x.raw) rows (e ∷ es)) ∙ ap (λ n. get_or (map (λ x. x.raw) rows ++ (e.raw ∷ map (λ x. x.raw) es)) n d) (sym many ∙ sym (length-map rows (λ (x : Entry). x.raw))) ∙ get_or-append_seam (map (λ x. x.raw) rows) e.raw (map (λ x. x.raw) es) d in
      let body_is : body ≡ (front ++ raw) ++ (end ++ behind) = whole ∙ ap (λ l. front ++ l) leads.whole ∙ sym (append_assoc front raw (end ++ behind)) in
      let at_raw : at + length raw ≡ length (front ++ raw) = omega (arith, a, length-append front raw) in
      let long : length body ≡ at + length raw + length end + length behind = omega (arith, ap length body_is, at_raw, length-append (front ++ raw) (end ++ behind), length-append end behind) in
      let moved : (rows ++ (e ∷ [])) ++ es ≡ rows ++ (e ∷ es) = append_assoc rows (e ∷ []) es in
      let step : Step body width records fields number at raw = record {
        end = end;
        behind = behind;
        ends = leads.ends;
        left = ap (λ n. drop n body) at_raw ∙ ap (λ l. drop (length (front ++ raw)) l) body_is ∙ drop-append_seam (front ++ raw) (end ++ behind);
        fits = omega (arith, long);
        next = record {
          rows = rows ++ (e ∷ []);
          more = es;
          rest = behind;
          many = omega (arith, length-append rows (e ∷ []), many);
          before = reads_more width body rows rest e behind before after.0 after.1 leads;
          after = after.2.2;
          records_are = r ∙ ap (λ l. map (λ (x : Entry). x.raw) l) (sym moved);
          fields_are = f ∙ ap (λ l. flat_map (λ (x : Entry). x.fields) l) (sym moved);
          front = (front ++ raw) ++ end;
          whole = body_is ∙ sym (append_assoc (front ++ raw) end behind);
          at_is = omega (arith, at_raw, length-append (front ++ raw) end);
        };
      } in
      subst (λ (b : Bor (List ℕ)). Step body width records fields number at b.now) (sym here) step

  pub parted_step : Parted body width records fields number at → (d : Bor (List ℕ)) → number < length records → Step body width records fields number at (get_or records number d).now
  parted_step p = step_at p.rows p.more p.rest p.front p.many p.before p.after p.records_are p.fields_are p.whole p.at_is
