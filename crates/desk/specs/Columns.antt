-- The columns of a table that was read. Assumes nothing.
use Rattle.std.specs.Prelude.{◌≡◌, ℕ, List, [], ◌∷◌, map, length, min, Some, None, Option}
use Rattle.std.specs.Borrow.{Bor}
use Rattle.std.specs.Vec.{vec_items}
use Rattle.options.specs.declared.asked.Asked.{Asked}
use Rattle.options.specs.declared.function.Function.{Function}
use Rattle.options.specs.Functions.{function_text}
use Rattle.table.specs.declared.content.Content.{Content}
use Rattle.table.specs.declared.names.NoColumn.{NoColumn}
use Rattle.table.specs.Columns.{ColumnOf, NamesOf}
use Rattle.table.specs.Contents.{bytes_of}
use Rattle.table.specs.Names.{IsColumn, NotColumn}
use Rattle.table.specs.Tables.{IsTable}
use Rattle.desk.specs.declared.job.Job.{Job}
use Rattle.desk.specs.declared.refusal.Refusal.{Refusal}
use Rattle.desk.specs.declared.refusal.Refusal.TheVariants.{Column}

-- a table: its records and fields, and the names of its columns
pub record Sheet : Type 0 where
  pub width : ℕ
  pub records : List (Bor (List ℕ))
  pub fields : List (Bor (List ℕ))
  pub names : List (Bor (List ℕ))

-- the table of a text, with the names that its header says
pub record IsSheet (text : List ℕ) (s : Sheet) : Type 0 where
  pub table : IsTable text s.width s.records s.fields
  pub header : List Content
  pub read : NamesOf s.width s.fields header
  pub names : map (λ n. n.now) s.names ≡ map bytes_of header

-- what a job holds
abbrev pub sheet_of : Job → Sheet
sheet_of j = record { width = j.table.now.width; records = vec_items j.table.now.records; fields = vec_items j.table.now.fields; names = j.names.now }

-- the same, of some text
abbrev pub Read : Job → Type 0
Read j = (text : List ℕ) × IsSheet text (sheet_of j)

-- the contents of the column of a name, below the header
pub record ColumnNamed (s : Sheet) (name : List ℕ) (contents : List Content) : Type 0 where
  pub column : ℕ
  pub named : IsColumn s.names name column
  pub of : ColumnOf s.width s.fields column contents

-- a name is told to be of no one column
abbrev pub NotFound : List (Bor (List ℕ)) → Bor (List ℕ) → Refusal → Type 0
NotFound names name r = (why : NoColumn) × (r ≡ Column name why) × NotColumn names name.now why

-- numbers of rows, with each named column refined by a relation, one after the other
abbrev pub RefinedBy : (List ℕ → List Content → List ℕ → Type 0) → Sheet → List ℕ → List (Bor (List ℕ)) → List ℕ → Type 0
RefinedBy by s from [] to = to ≡ from
RefinedBy by s from (name ∷ names) to = (contents : List Content) × (mid : List ℕ) × ColumnNamed s name.now contents × by from contents mid × (length mid ≡ min (length from) (length contents)) × RefinedBy by s mid names to

-- the name that is asked for, else that of the function
abbrev pub name_or : Option (Bor (List ℕ)) → Function → List ℕ
name_or None function = function_text function
name_or (Some name) function = name.now

-- the name of the new column
abbrev pub new_name : Asked → List ℕ
new_name asked = name_or asked.as_name asked.function
