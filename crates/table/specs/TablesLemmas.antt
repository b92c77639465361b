-- How many fields a table has.
use Rattle.std.proofs.Common.{◌≡◌, ℕ, ◌-◌, ◌*◌, ◌/◌, ◌<◌, List, [], ◌∷◌, length, Bor, sym, ap, ◌∙◌, arith, length-append}
use Rattle.std.proofs.lemmas.List.{length-map}
use Rattle.std.proofs.Math.Nat.{mul-div_cancel_left}
use Rattle.std.specs.List.{flat_map}
use Rattle.table.specs.Columns.{ColumnOf}
use Rattle.table.specs.declared.content.Content.{Content}
use Rattle.table.specs.Tables.{Entry, IsTable, ReadsTo}

pub rows_fields : (width : ℕ) (text : List ℕ) (rows : List Entry) (rest : List ℕ) → ReadsTo width text rows rest → length (flat_map (λ e. e.fields) rows) ≡ width * length rows
rows_fields width text [] rest r = grind arith
rows_fields width text (e ∷ es) rest r =
    let more : length (flat_map (λ e. e.fields) es) ≡ width * length es = rows_fields width r.2.0 es rest r.2.2 in
    grind (arith, length-append e.fields (flat_map (λ e. e.fields) es), r.1)

rows_width : (width : ℕ) (text : List ℕ) (rows : List Entry) (rest : List ℕ) → ReadsTo width text rows rest → 0 < length rows → 0 < width
rows_width width text [] rest r some = absurd (omega (arith, some))
rows_width width text (e ∷ es) rest r some = omega (arith, r.1, r.2.1.row.some)

-- a table has a record at least, of one field at least, and as many fields in each
pub record Fits (width : ℕ) (records fields : List (Bor (List ℕ))) : Type 0 where
  pub some : 0 < length records
  pub wide : 0 < width
  pub all : length fields ≡ width * length records

pub table_fits : {text : List ℕ} {width : ℕ} {records fields : List (Bor (List ℕ))} → IsTable text width records fields → Fits width records fields
table_fits {width = width} t =
    let b = t.read in
    let many = ap length b.records_are ∙ length-map b.rows (λ (e : Entry). e.raw) in
    record {
      some = omega (arith, many, b.header);
      wide = rows_width width t.body b.rows [] b.read b.header;
      all = ap length b.fields_are ∙ rows_fields width t.body b.rows [] b.read ∙ ap (λ n. width * n) (sym many);
    }

-- a column of a table has a content for each record below the header
pub column_below : {text : List ℕ} {width : ℕ} {records fields : List (Bor (List ℕ))} {column : ℕ} {contents : List Content} → IsTable text width records fields → ColumnOf width fields column contents → length contents ≡ length records - 1
column_below {width = width} {records = records} t c =
    let fits = table_fits t in
    c.all ∙ ap (λ n. n / width - 1) fits.all ∙ ap (λ n. n - 1) (mul-div_cancel_left (length records) fits.wide)
