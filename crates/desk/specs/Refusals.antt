-- Why a table gets no answers. Assumes nothing.
use Rattle.std.specs.Prelude.{◌≡◌, ◌≢◌, ◌⊎◌, ℕ, ◌+◌, ◌<◌, List, [], length, Some, None, slice_index_or}
use Rattle.options.specs.declared.asked.Asked.{Asked}
use Rattle.table.specs.declared.content.Content.{Content}
use Rattle.table.specs.declared.fault.Unread.{Unread as NoTable}
use Rattle.table.specs.Columns.{ColumnOf}
use Rattle.table.specs.Contents.{bytes_of}
use Rattle.table.specs.Names.{NotColumn}
use Rattle.table.specs.Tables.{NotRead}
use Rattle.desk.specs.declared.refusal.Refusal.{Refusal}
use Rattle.desk.specs.declared.refusal.Refusal.TheVariants.{Memory, Unread, Column, NoValue, NoDefault, NoValues, Call, Differs}
use Rattle.desk.specs.Columns.{IsSheet, Sheet}

-- want of memory, or a check of the library
abbrev pub Ran : Refusal → Type 0
Ran Memory = Unit {0}
Ran (Call fault) = Unit {0}
Ran (Unread unread) = ⊥
Ran (Column name why) = ⊥
Ran (NoValue row column kind) = ⊥
Ran (NoDefault text kind) = ⊥
Ran NoValues = ⊥
Ran (Differs row) = ⊥

-- the field of a record of a column is not empty; the header is record 0
abbrev pub Filled : List Content → ℕ → Type 0
Filled contents row = (k : ℕ) × (row ≡ k + 1) × (k < length contents) × ((d : Content) → bytes_of (slice_index_or contents k d) ≢ [])

-- what may be refused of a table: a name of no one column, a field that is not empty, a default that is not empty, no column that is named, or a call of the library
abbrev pub Why : Sheet → Asked → Refusal → Type 0
Why s asked Memory = Unit {0}
Why s asked (Call fault) = Unit {0}
Why s asked (Unread unread) = ⊥
Why s asked (Column name why) = NotColumn s.names name.now why
Why s asked (NoValue row column kind) = (contents : List Content) × ColumnOf s.width s.fields column contents × Filled contents row
Why s asked (NoDefault text kind) = (asked.default ≡ Some text) × (text.now ≢ [])
Why s asked NoValues = asked.of ≡ None
Why s asked (Differs row) = ⊥

-- why a text gets no answers: it is no table, or its table gets none
abbrev pub Unanswered : List ℕ → Asked → Refusal → Type 0
Unanswered text asked r = ((unread : NoTable) × (r ≡ Unread unread) × NotRead text unread) ⊎ ((r ≡ Memory) ⊎ ((s : Sheet) × IsSheet text s × Why s asked r))
