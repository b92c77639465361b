-- The texts of refusals. Assumes nothing.
use Rattle.std.specs.Prelude.{◌≡◌, ℕ, List, ◌++◌, codes, decimal}
use Rattle.column.specs.Fault.{number, place}
use Rattle.table.specs.declared.names.NoColumn.{NoColumn}
use Rattle.table.specs.declared.names.NoColumn.TheVariants.{Absent, Twice}
use Rattle.table.specs.FieldPlaces.{PlaceOf}
use Rattle.table.specs.Messages.{unread_text}
use Rattle.desk.specs.declared.refusal.Refusal.{Refusal}
use Rattle.desk.specs.declared.refusal.Refusal.TheVariants.{Memory, Unread, Column, NoValue, NoDefault, NoValues, Call, Differs}

-- a name that is of no one column
abbrev pub column_text : List ℕ → NoColumn → List ℕ
column_text name Absent = codes "no column \"" ++ (name ++ codes "\"")
column_text name Twice = codes "column \"" ++ (name ++ codes "\" comes twice")

-- what is wrong, without its place
abbrev pub refusal_text : Refusal → List ℕ
refusal_text Memory = codes "not enough memory"
refusal_text (Unread unread) = unread_text unread
refusal_text (Column name why) = column_text name.now why
refusal_text (NoValue row column kind) = codes "no " ++ kind.now
refusal_text (NoDefault text kind) = codes "the default is no " ++ (kind.now ++ (codes ": \"" ++ (text.now ++ codes "\"")))
refusal_text NoValues = codes "no column of values is named"
refusal_text (Call fault) = codes "refused by check " ++ (decimal (number fault) ++ (codes ", at " ++ decimal (place fault)))
refusal_text (Differs row) = codes "record " ++ (decimal row ++ codes " has another answer row by row than over its whole partition")

-- a file, a line and a column, and what is wrong there
abbrev pub placed_text : List ℕ → ℕ → ℕ → Refusal → List ℕ
placed_text file line column r = file ++ (codes ":" ++ (decimal line ++ (codes ":" ++ (decimal column ++ (codes ": " ++ refusal_text r)))))

-- the same without a line and a column
abbrev pub file_text : List ℕ → Refusal → List ℕ
file_text file r = file ++ (codes ": " ++ refusal_text r)

-- the message of a refusal: a text that is no table brings its own place, a column is of line 1, and a field has its place in the text
abbrev pub Message : List ℕ → List ℕ → Refusal → List ℕ → Type 0
Message file text (Unread unread) out = out ≡ file ++ (codes ":" ++ unread_text unread)
Message file text (Column name why) out = out ≡ file ++ (codes ":1:1: " ++ column_text name.now why)
Message file text (NoValue row column kind) out = (line here : ℕ) × PlaceOf text row column line here × (out ≡ placed_text file line here (NoValue row column kind))
Message file text Memory out = out ≡ file_text file Memory
Message file text (NoDefault given kind) out = out ≡ file_text file (NoDefault given kind)
Message file text NoValues out = out ≡ file_text file NoValues
Message file text (Call fault) out = out ≡ file_text file (Call fault)
Message file text (Differs row) out = out ≡ file_text file (Differs row)
