-- The text of the report. Assumes nothing.
use Rattle.std.specs.Prelude.{◌≡◌, ℕ, ◌+◌, ◌-◌, List, [], ◌∷◌, ◌++◌, map, length, ℤ, Some, None, codes, decimal}
use Rattle.std.specs.Fmt.{signed_decimal}
use Rattle.sessions.specs.declared.record.Record.{Record}
use Rattle.sessions.specs.Reading.{IsTable}
use Rattle.sessions.specs.Sessions.{Cell, LastRenewed, sessions_in}

-- the header with the answers' column
abbrev pub head_text : List ℕ → List ℕ
head_text line = line ++ codes ",last_renewed_expiry\n"

-- a line with an answer that is a number
abbrev pub answered_text : List ℕ → ℤ → List ℕ
answered_text line t = line ++ (codes "," ++ (signed_decimal t ++ codes "\n"))

-- a line with its answer, nothing for NULL
abbrev pub row_text : List ℕ → Cell → List ℕ
row_text line None = line ++ codes ",\n"
row_text line (Some t) = answered_text line t.0

-- each line with its answer
abbrev pub rows_text : List Record → List Cell → List ℕ
rows_text [] cs = []
rows_text (r ∷ rs) [] = []
rows_text (r ∷ rs) (c ∷ cs) = row_text r.line.now c ++ rows_text rs cs

-- the expiry of a record
abbrev pub expiry_of : Record → Cell
expiry_of r = r.expiry

-- how many cells are NULL
abbrev pub nulls : List Cell → ℕ
nulls [] = 0
nulls (None ∷ cs) = 1 + nulls cs
nulls (Some t ∷ cs) = nulls cs

-- the summary, of these numbers
abbrev pub summary_text : ℕ → ℕ → ℕ → ℕ → List ℕ
summary_text sessions records empty defaults =
    codes "# sessions: " ++ (decimal sessions ++ (codes "\n# records: " ++ (decimal records ++ (codes "\n# empty expiries: " ++ (decimal empty
    ++ (codes "\n# answers found: " ++ (decimal (records - defaults) ++ (codes "\n# defaults: " ++ (decimal defaults ++ codes "\n")))))))))

-- the whole report
abbrev pub report_text : List ℕ → List Record → List Cell → ℕ → List ℕ
report_text header rows answers sessions = head_text header ++ (rows_text rows answers ++ summary_text sessions (length rows) (nulls (map expiry_of rows)) (nulls answers))

-- the report of a text: its header and its records, with the last renewed expiry before each
pub record Reported (text s : List ℕ) : Type 0 where
  pub header : List ℕ
  pub rows : List Record
  pub answers : List Cell
  pub sessions : ℕ
  pub read : IsTable text header rows
  pub renewed : LastRenewed rows answers
  pub counted : sessions ≡ sessions_in rows (length rows)
  pub written : s ≡ report_text header rows answers sessions
