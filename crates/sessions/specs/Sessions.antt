-- The records of sessions, and the last renewed expiry before each. Assumes nothing.
use Rattle.std.specs.Prelude.{◌≡◌, ℕ, zero, suc, ◌+◌, ◌<◌, ◌≤◌, ◌≢◌, max, cond, List, [], ◌∷◌, ◌++◌, map, length, take, Some, None, vec_items, Option, Vec, ◌==◌, slice_index_or}
use Rattle.std.specs.Str.{bytes_eq}
use Rattle.column.specs.declared.kind.Instant.{Instant}
use Rattle.column.specs.Refusal.{row_limit}
use Rattle.sessions.specs.declared.partitions.Place.{Place}
use Rattle.sessions.specs.declared.problem.Unanswered.{Unanswered}
use Rattle.sessions.specs.declared.problem.Unanswered.TheVariants.{Memory, TooMany}
use Rattle.sessions.specs.declared.record.Record.{Record}

-- NULL, or an expiry
abbrev pub Cell : Type 0
Cell = Option Instant

-- the name of a record's session
abbrev pub session : Record → List ℕ
session r = r.session.now

-- the name of the session of record i
abbrev pub session_at : List Record → ℕ → List ℕ
session_at rows i = slice_index_or (map session rows) i []

-- the cells of a session's records, in order
abbrev pub cells_of : List ℕ → List Record → List Cell
cells_of s [] = []
cells_of s (r ∷ rs) = cond (bytes_eq s (session r)) (r.expiry ∷ cells_of s rs) (cells_of s rs)

-- the later of two cells that is present
abbrev pub later : Cell → Cell → Cell
later c None = c
later c (Some x) = Some x

-- the last present cell, NULL where there is none
abbrev pub last_present : List Cell → Cell
last_present [] = None
last_present (c ∷ cs) = later c (last_present cs)

-- the last present cell before row i
abbrev pub last_before : List Cell → ℕ → Cell
last_before cs i = last_present (take i cs)

-- the last renewed expiry before record i in its session
abbrev pub last_expiry : List Record → ℕ → Cell
last_expiry rows i = last_present (cells_of (session_at rows i) (take i rows))

-- the lists in a list of lists
abbrev pub lists : {Y Z : Type 0} → Vec (Vec Cell Y) Z → List (List Cell)
lists v = map vec_items (vec_items v)

-- how many of the first n records are the first of their session: the number of sessions among them
abbrev pub sessions_in : List Record → ℕ → ℕ
sessions_in rows zero = 0
sessions_in rows (suc n) = sessions_in rows n + cond (length (cells_of (session_at rows n) (take n rows)) == 0) 1 0

-- a list for each session: that of a record's session has the session's cells, and its row is behind the records before it
pub record Grouped (rows : List Record) (ls : List (List Cell)) (places : List Place) : Type 0 where
  pub all : length places ≡ length rows
  pub session : (i : ℕ) (d : Place) → i < length rows → (slice_index_or places i d).session < length ls
  pub cells : (i : ℕ) (d : Place) → i < length rows → slice_index_or ls (slice_index_or places i d).session [] ≡ cells_of (session_at rows i) rows
  pub row : (i : ℕ) (d : Place) → i < length rows → (slice_index_or places i d).row ≡ length (cells_of (session_at rows i) (take i rows))
  pub sessions : length ls ≡ sessions_in rows (length rows)

-- no list is longer than a partition may be
abbrev pub Bounded : List (List Cell) → Type 0
Bounded ls = (k : ℕ) → length (slice_index_or ls k []) ≤ row_limit

-- no session has more records than a partition may have
abbrev pub Within : List Record → Type 0
Within rows = (i : ℕ) → i < length rows → length (cells_of (session_at rows i) rows) ≤ row_limit

-- as many records of record i's session stand before it as a partition may have
abbrev pub Full : List Record → ℕ → Type 0
Full rows i = length (cells_of (session_at rows i) (take i rows)) ≡ row_limit

-- record i is the first that is too many
pub record FirstFull (rows : List Record) (i : ℕ) : Type 0 where
  pub within : i < length rows
  pub full : Full rows i
  pub before : (j : ℕ) → j < i → Full rows j → ⊥

-- a refusal for a session's length names the first record that is too many
abbrev pub Overfull : List Record → Unanswered → Type 0
Overfull rows Memory = Unit {0}
Overfull rows (TooMany i) = FirstFull rows i

-- the answer of each cell is the last present one before it
pub record Answered (cs answers : List Cell) : Type 0 where
  pub all : length answers ≡ length cs
  pub each : (k : ℕ) → k < length cs → slice_index_or answers k None ≡ last_before cs k

-- a cell more at the end of list n, which is new if there are n lists; the other lists stay
pub record Appended (old new : List (List Cell)) (n : ℕ) (c : Cell) : Type 0 where
  pub count : length new ≡ max (length old) (n + 1)
  pub here : slice_index_or new n [] ≡ slice_index_or old n [] ++ (c ∷ [])
  pub others : (k : ℕ) → k ≢ n → slice_index_or new k [] ≡ slice_index_or old k []

-- the answers of each list
pub record AllAnswered {Y : Type 0} (ls answers : List (Vec Cell Y)) : Type 0 where
  pub all : length answers ≡ length ls
  pub each : (k : ℕ) (d e : Vec Cell Y) → k < length ls → Answered (vec_items (slice_index_or ls k d)) (vec_items (slice_index_or answers k e))

-- the place is in one of the lists
abbrev pub Inside : List (List Cell) → Place → Type 0
Inside ls p = (p.session < length ls) × (p.row < length (slice_index_or ls p.session []))

-- what stands at a place
abbrev pub cell_at : List (List Cell) → Place → Cell
cell_at ls p = slice_index_or (slice_index_or ls p.session []) p.row None

-- the answer of each record is the last renewed expiry before it in its session
pub record LastRenewed (rows : List Record) (answers : List Cell) : Type 0 where
  pub all : length answers ≡ length rows
  pub each : (i : ℕ) → i < length rows → slice_index_or answers i None ≡ last_expiry rows i
