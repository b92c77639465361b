-- The fields of a record before one of them.
use Rattle.std.proofs.Common.{◌≡◌, ℕ, ◌+◌, ◌*◌, ◌<◌, ◌≤◌, List, [], ◌∷◌, ◌++◌, map, length, take, drop, get_or, zero, suc, Bor, sym, ap, ◌∙◌, arith, length-append}
use Rattle.std.proofs.Math.Nat.{mul_comm}
use Rattle.std.proofs.Math.Seq.{drop-append_seam, take-append_seam, take-suc}
use Rattle.std.proofs.lemmas.List.{get_or-drop, get_or-take, length-map}
use Rattle.std.proofs.lemmas.List.Concat.{flat_map-append}
use Rattle.std.specs.List.{flat_map, join_with_byte}
use Rattle.table.proofs.Begun.{begun_more}
use Rattle.table.specs.FieldPlaces.{FieldAt, Parted}
use Rattle.table.specs.Rows.{Leads, begun_text}
use Rattle.table.specs.Tables.{Entry, ReadsTo}
use Rattle.table.specs.TablesLemmas.{rows_fields}

-- the fields of a record
abbrev pub fields_of : ℕ → List (Bor (List ℕ)) → ℕ → List (Bor (List ℕ))
fields_of width fields number = take width (drop (number * width) fields)

-- the bytes of the fields before one, with their commas
abbrev pub before : ℕ → List (Bor (List ℕ)) → ℕ → ℕ → ℕ
before width fields number k = length (begun_text (take k (fields_of width fields number)))

begun_short : (fs : List (Bor (List ℕ))) (k : ℕ) → k < length fs → length (begun_text (take k fs)) ≤ length (join_with_byte 44 (map (λ f. f.now) fs))
begun_short [] k h = absurd (omega (arith, h))
begun_short (f ∷ fs) zero h = omega arith
begun_short (f ∷ []) (suc k) h = absurd (omega (arith, h))
begun_short (f ∷ g ∷ fs) (suc k) h = omega (arith, begun_short (g ∷ fs) k (omega (arith, h)), length-append (f.now ++ (44 ∷ [])) (begun_text (take k (g ∷ fs))), length-append f.now (44 ∷ []), length-append f.now (44 ∷ join_with_byte 44 (map (λ f. f.now) (g ∷ fs))))

begun_next : (fs : List (Bor (List ℕ))) (k : ℕ) (d : Bor (List ℕ)) → k < length fs → length (begun_text (take (k + 1) fs)) ≡ length (begun_text (take k fs)) + (length (get_or fs k d).now + 1)
begun_next fs k d h =
    let next : k + 1 ≡ suc k = omega arith in
    let front : take (k + 1) fs ≡ take k fs ++ (get_or fs k d ∷ []) = ap (λ n. take n fs) next ∙ take-suc fs k d h in
    omega (arith, ap (λ l. length (begun_text l)) front, ap length (begun_more (take k fs) (get_or fs k d)), length-append (begun_text (take k fs)) ((get_or fs k d).now ++ (44 ∷ [])), length-append (get_or fs k d).now (44 ∷ []))

-- what the loop over a record's fields needs
pub record Fielded (body : List ℕ) (width : ℕ) (fields : List (Bor (List ℕ))) (number at : ℕ) : Type 0 where
  pub index : (k : ℕ) → k < width → number * width + k < length fields
  pub next : (k : ℕ) (d : Bor (List ℕ)) → k < width → before width fields number (k + 1) ≡ before width fields number k + (length (get_or fields (number * width + k) d).now + 1)
  pub within : (k : ℕ) → k < width → at + before width fields number k ≤ length body
  pub field : (k : ℕ) → k < width → FieldAt body width number k (at + before width fields number k)

module _ (body : List ℕ) (width : ℕ) (records fields : List (Bor (List ℕ))) (number at : ℕ) where
  fielded_at : (rows more : List Entry) (rest front : List ℕ) → length rows ≡ number → ReadsTo width body rows rest → ReadsTo width rest more [] → records ≡ map (λ e. e.raw) (rows ++ more) → fields ≡ flat_map (λ e. e.fields) (rows ++ more) → body ≡ front ++ rest → at ≡ length front → number < length records → Fielded body width fields number at
  fielded_at rows [] rest front many read after r f whole a h = absurd (omega (arith, ap length r, length-map (rows ++ []) (λ (e : Entry). e.raw), length-append rows [], many))
  fielded_at rows (e ∷ es) rest front many read after r f whole a h =
      let leads : Leads rest e.raw.now e.fields after.2.0 = after.2.1 in
      let earlier = flat_map (λ (x : Entry). x.fields) rows in
      let later = flat_map (λ (x : Entry). x.fields) es in
      let all : fields ≡ earlier ++ (e.fields ++ later) = f ∙ flat_map-append (λ (x : Entry). x.fields) rows (e ∷ es) in
      let passed : number * width ≡ length earlier = ap (λ n. n * width) (sym many) ∙ mul_comm (length rows) width ∙ sym (rows_fields width body rows rest read) in
      let own : fields_of width fields number ≡ e.fields = ap (λ n. take width (drop n fields)) passed ∙ ap (λ l. take width (drop (length earlier) l)) all ∙ ap (take width) (drop-append_seam earlier (e.fields ++ later)) ∙ ap (λ n. take n (e.fields ++ later)) (sym after.1) ∙ take-append_seam e.fields later in
      let long : length (fields_of width fields number) ≡ width = ap length own ∙ after.1 in
      let counted : length fields ≡ length earlier + (length e.fields + length later) = omega (arith, ap length all, length-append earlier (e.fields ++ later), length-append e.fields later) in
      record {
        index = λ k hk. omega (arith, counted, passed, after.1);
        next = λ k d hk. begun_next (fields_of width fields number) k d (omega (arith, long)) ∙ ap (λ x. length (begun_text (take k (fields_of width fields number))) + (length x.now + 1)) (get_or-take width (drop (number * width) fields) k d hk ∙ get_or-drop (number * width) fields k d);
        within = λ k hk. omega (arith, ap length whole, length-append front rest, a, ap length leads.whole, length-append e.raw.now (leads.end ++ after.2.0), ap length leads.row.joined, begun_short e.fields k (omega (arith, after.1)), ap (λ l. length (begun_text (take k l))) own);
        field = λ k hk. record {
          rows = rows;
          rest = rest;
          many = many;
          read = read;
          next = e;
          behind = after.2.0;
          leads = leads;
          wide = after.1;
          at_is = omega (arith, ap length whole, length-append front rest, a, ap (λ l. length (begun_text (take k l))) own);
        };
      }

  pub fielded : Parted body width records fields number at → number < length records → Fielded body width fields number at
  fielded p = fielded_at p.rows p.more p.rest p.front p.many p.before p.after p.records_are p.fields_are p.whole p.at_is
