-- The records of a text, as far as they were read.
use Rattle.std.proofs.Common.{◌≡◌, ◌≢◌, ℕ, ◌+◌, ◌-◌, ◌<◌, ◌≤◌, List, [], ◌∷◌, ◌++◌, map, length, Bor, refl, sym, ap, ◌∙◌, append-nil, arith, length-append}
use Rattle.std.proofs.lemmas.List.{map-append}
use Rattle.std.proofs.lemmas.List.Concat.{flat_map-append}
use Rattle.std.specs.List.{flat_map}
use Rattle.table.specs.declared.fault.Fault.{Fault}
use Rattle.table.specs.declared.fault.Fault.TheVariants.{Empty, QuoteInside, LoneReturn, AfterQuote, Unclosed, Ragged}
use Rattle.table.specs.declared.stop.Stop.{Stop}
use Rattle.table.specs.declared.stop.Stop.TheVariants.{Memory, At}
use Rattle.table.specs.Fields.{BadAt, quoted}
use Rattle.table.specs.Rows.{BadRow, Leads, NoRow, begun_text}
use Rattle.table.specs.Tables.{Entry, FaultAt, Halted, NotBody, ReadsTo, Uneven}

pub record Sofar (body rest : List ℕ) (width : ℕ) (records fields : List (Bor (List ℕ))) : Type 0 where
  pub rows : List Entry
  pub header : 0 < length rows
  pub read : ReadsTo width body rows rest
  pub records_are : records ≡ map (λ e. e.raw) rows
  pub fields_are : fields ≡ flat_map (λ e. e.fields) rows

leads_shorter : {text raw rest : List ℕ} {fields : List (Bor (List ℕ))} → Leads text raw fields rest → length rest ≤ length text
leads_shorter {raw = raw} {rest = rest} l = omega (arith, ap length l.whole, length-append raw (l.end ++ rest), length-append l.end rest)

pub reads_shorter : (width : ℕ) (text : List ℕ) (es : List Entry) (rest : List ℕ) → ReadsTo width text es rest → length rest ≤ length text
reads_shorter width text [] rest r = omega (arith, ap length r)
reads_shorter width text (e ∷ es) rest r = omega (arith, reads_shorter width r.2.0 es rest r.2.2, leads_shorter r.2.1)

pub reads_more : (width : ℕ) (text : List ℕ) (es : List Entry) (rest : List ℕ) (e : Entry) (behind : List ℕ) → ReadsTo width text es rest → 0 < length rest → length e.fields ≡ width → Leads rest e.raw.now e.fields behind → ReadsTo width text (es ++ (e ∷ [])) behind
reads_more width text [] rest e behind r some many l = (rw r some, many, (behind, rw r l, refl))
reads_more width text (x ∷ es) rest e behind r some many l = (r.0, r.1, (r.2.0, r.2.1, reads_more width r.2.0 es rest e behind r.2.2 some many l))

pub sofar_first : (body rest : List ℕ) (width : ℕ) (raw : Bor (List ℕ)) (more records fields : List (Bor (List ℕ))) → 0 < length body → Leads body raw.now more rest → records ≡ raw ∷ [] → fields ≡ more → width ≡ length fields → Sofar body rest width records fields
sofar_first body rest width raw more records fields some l r f w = record {
  rows = record { raw = raw; fields = more } ∷ [];
  header = omega arith;
  read = (some, sym (w ∙ ap length f), (rest, l, refl));
  records_are = r;
  fields_are = f ∙ sym (append-nil more);
}

pub sofar_more : (body rest : List ℕ) (width : ℕ) (records fields : List (Bor (List ℕ))) (raw : Bor (List ℕ)) (more : List (Bor (List ℕ))) (behind : List ℕ) (records' fields' : List (Bor (List ℕ))) → Sofar body rest width records fields → 0 < length rest → Leads rest raw.now more behind → records' ≡ records ++ (raw ∷ []) → fields' ≡ fields ++ more → length fields' - length fields ≡ width → Sofar body behind width records' fields'
sofar_more body rest width records fields raw more behind records' fields' s some l r f w =
    let e : Entry = record { raw = raw; fields = more } in
    record {
      rows = s.rows ++ (e ∷ []);
      header = omega (arith, length-append s.rows (e ∷ []));
      read = reads_more width body s.rows rest e behind s.read some (omega (arith, ap length f, length-append fields more)) l;
      records_are = r ∙ ap (λ x. x ++ (raw ∷ [])) s.records_are ∙ sym (map-append (λ (x : Entry). x.raw) s.rows (e ∷ []));
      fields_are = f ∙ ap (λ x. x ++ more) s.fields_are ∙ ap (λ x. flat_map (λ (y : Entry). y.fields) s.rows ++ x) (sym (append-nil more)) ∙ sym (flat_map-append (λ (y : Entry). y.fields) s.rows (e ∷ []));
    }

pub uneven : (body rest : List ℕ) (width : ℕ) (records fields : List (Bor (List ℕ))) (raw : Bor (List ℕ)) (more : List (Bor (List ℕ))) (behind : List ℕ) (fields' : List (Bor (List ℕ))) (found : ℕ) → Sofar body rest width records fields → 0 < length rest → Leads rest raw.now more behind → fields' ≡ fields ++ more → found ≡ length fields' - length fields → found ≢ width → Uneven body (length body - length rest) found width
uneven body rest width records fields raw more behind fields' found s some l f n w = record {
  rows = s.rows;
  rest = rest;
  header = s.header;
  read = s.read;
  place = refl;
  more = some;
  next = record { raw = raw; fields = more };
  behind = behind;
  leads = l;
  many = omega (arith, n, ap length f, length-append fields more);
  other = w;
}

-- a record that is broken, behind sound ones
pub halted : (body rest : List ℕ) (width : ℕ) (rows : List Entry) → ReadsTo width body rows rest → 0 < length rest → (inside at : ℕ) (fault : Fault) → at ≡ (length body - length rest) + inside → BadRow rest inside fault → FaultAt body at fault
halted body rest width rows r some inside at Empty e bad = absurd bad.bad
halted body rest width rows r some inside at QuoteInside e bad = record { width = width; rows = rows; rest = rest; read = r; more = some; inside = inside; place = e; bad = bad }
halted body rest width rows r some inside at LoneReturn e bad = record { width = width; rows = rows; rest = rest; read = r; more = some; inside = inside; place = e; bad = bad }
halted body rest width rows r some inside at AfterQuote e bad = record { width = width; rows = rows; rest = rest; read = r; more = some; inside = inside; place = e; bad = bad }
halted body rest width rows r some inside at Unclosed e bad = record { width = width; rows = rows; rest = rest; read = r; more = some; inside = inside; place = e; bad = bad }
halted body rest width rows r some inside at (Ragged found expected) e bad = absurd bad.bad

pub halted_first : (body : List ℕ) → 0 < length body → (stop : Stop) → NoRow body stop → NotBody body stop
halted_first body some Memory n = tt
halted_first body some (At at fault) n = halted body body 0 [] refl some at at fault (omega arith) n

-- a fault stands within the text
bad_within : (text : List ℕ) (at : ℕ) (fault : Fault) → BadAt text at fault → at ≤ length text
bad_within text at Empty b = absurd b
bad_within text at QuoteInside b = omega (arith, b.place, ap length b.whole, length-append b.begun b.rest)
bad_within text at LoneReturn b = omega (arith, b.place, ap length b.whole, length-append b.begun b.rest)
bad_within text at AfterQuote b = omega (arith, b.place, ap length b.whole, length-append (quoted b.content) b.rest)
bad_within text at Unclosed b = omega (arith, b.0)
bad_within text at (Ragged found expected) b = absurd b

row_within : (text : List ℕ) (at : ℕ) (fault : Fault) → BadRow text at fault → at ≤ length text
row_within text at fault b = omega (arith, b.at_is, bad_within b.rest b.place fault b.bad, ap length b.whole, length-append (begun_text b.begun) b.rest)

halted_within : (body : List ℕ) (at : ℕ) (fault : Fault) → Halted body at fault → at ≤ length body
halted_within body at fault h = omega (arith, h.place, row_within h.rest h.inside fault h.bad, reads_shorter h.width body h.rows h.rest h.read)

pub fault_within : (body : List ℕ) (at : ℕ) (fault : Fault) → FaultAt body at fault → at ≤ length body
fault_within body at Empty f = omega (arith, f.1)
fault_within body at QuoteInside f = halted_within body at QuoteInside f
fault_within body at LoneReturn f = halted_within body at LoneReturn f
fault_within body at AfterQuote f = halted_within body at AfterQuote f
fault_within body at Unclosed f = halted_within body at Unclosed f
fault_within body at (Ragged found expected) f = omega (arith, f.place)
