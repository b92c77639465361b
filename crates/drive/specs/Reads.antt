-- The texts that calls are read from.
use Rattle.std.specs.Prelude.{◌≡◌, ◌≢◌, ◌<◌, ◌≤◌, ◌⊎◌, ℕ, List, [], ◌∷◌, Bool, ◌++◌, codes, decimal, length, slice_index, vec_items, Option, Some, None}
use Rattle.column.specs.Refusal.{row_limit}
use Rattle.lines.specs.Fits.{ListFits, SpanFits}
use Rattle.lines.specs.Back.{EndsField}
use Rattle.lines.specs.Reads.{ReadsColumn, ReadsSpan, ReadsUnsigned}
use Rattle.lines.specs.Texts.{column_text, list_text, mark_text, span_text}
use Rattle.partition.specs.Table.{Input}
use Rattle.drive.specs.declared.handed.Lengths.{Lengths}
use Rattle.drive.specs.declared.ops.Request.{Request}
use Rattle.drive.specs.declared.ops.Step.{Step}
use Rattle.drive.specs.declared.ops.Op.{Op}
use Rattle.drive.specs.declared.ops.Op.TheVariants as op

-- frames or groups by their letter, `-` where there are none at all
abbrev pub SpansText : ℕ → List (ℕ × ℕ) → List ℕ → Type 0
SpansText letter spans text = (ListFits SpanFits spans × (text ≡ letter ∷ list_text span_text spans)) ⊎ ((spans ≡ []) × (text ≡ letter ∷ codes "-"))

-- the rows, frames and groups of a call on a whole partition
pub record HandedText {V : Type 0} (one : V → List ℕ) (Fits : V → Type 0) (x : Input V) (text : List ℕ) : Type 0 where
  pub frames : List ℕ
  pub groups : List ℕ
  pub fits : ListFits Fits x.values
  pub frames_text : SpansText 70 x.frames frames
  pub groups_text : SpansText 71 x.groups groups
  pub is : text ≡ column_text one 32 x.values x.marks ++ (codes " " ++ (frames ++ (codes " " ++ groups)))

-- the lengths of the two output lists of cells
abbrev pub TwoLengths : Lengths → List ℕ → Type 0
TwoLengths l text = (l.values ≤ row_limit) × (l.marks ≤ row_limit) × (text ≡ decimal l.values ++ (codes "," ++ decimal l.marks))

-- where an answer is no cell there is one list, and both are its length
abbrev pub OneLength : Lengths → List ℕ → Type 0
OneLength l text = (l.values ≤ row_limit) × (l.marks ≡ l.values) × (text ≡ decimal l.values)

-- a frame, or `-` where there is none
abbrev pub ReadsFrame : List ℕ → Option (ℕ × ℕ) → Type 0
ReadsFrame bs None = bs ≡ codes "-"
ReadsFrame bs (Some frame) = ReadsSpan bs frame

-- the row that the window begins at, its rows and the frame, with bars between them
abbrev pub ReadsRequest : {K : Type 0} → (List ℕ → K → Type 0) → List ℕ → Request K → Type 0
ReadsRequest Reads bs q = (begin : List ℕ) × (rows : List ℕ) × (frame : List ℕ) × (bs ≡ begin ++ (codes "|" ++ (rows ++ (codes "|" ++ frame)))) × ReadsUnsigned begin q.begin × ReadsColumn Reads 124 rows (vec_items q.column.values) (vec_items q.column.marks) × ReadsFrame frame q.frame

-- the name of an operation, and what stands in its braces
abbrev pub ReadsNamed : {K : Type 0} → (List ℕ → K → Type 0) → List ℕ → List ℕ → Op K → Type 0
ReadsNamed Reads name bs (op.Request q) = (name ≡ codes "q") × ReadsRequest Reads bs q
ReadsNamed Reads name bs op.Settle = (name ≡ codes "s") × (bs ≡ [])
ReadsNamed Reads name bs op.KeepMark = (name ≡ codes "m") × (bs ≡ [])
ReadsNamed Reads name bs (op.Close total) = (name ≡ codes "c") × ReadsUnsigned bs total
ReadsNamed Reads name bs op.Finish = (name ≡ codes "e") × (bs ≡ [])

-- an operation: its name, and braces
abbrev pub ReadsOp : {K : Type 0} → (List ℕ → K → Type 0) → List ℕ → Op K → Type 0
ReadsOp Reads bs o = (name : List ℕ) × (inner : List ℕ) × (bs ≡ name ++ (codes "{" ++ (inner ++ codes "}"))) × ReadsNamed Reads name inner o

-- an outcome before this rest: `>` and all before the next blank, or nothing where no `>` stands
abbrev pub IsOutcome : List ℕ → List ℕ → Type 0
IsOutcome bs rest = ((bs ≡ []) × (slice_index rest 0 ≢ 62)) ⊎ ((field : List ℕ) × (bs ≡ codes ">" ++ field) × ((k : ℕ) → k < length field → slice_index field k ≢ 32) × EndsField rest)

-- before this rest an operation with its text, and an outcome that is passed over
abbrev pub ReadsStep : {K : Type 0} → (List ℕ → K → Type 0) → List ℕ → List ℕ → Step K → Type 0
ReadsStep Reads bs rest s = (outcome : List ℕ) × (bs ≡ s.text.now ++ outcome) × IsOutcome outcome rest × ReadsOp Reads s.text.now s.op

-- operations up to the line's end, each behind a blank
abbrev pub ReadsSteps : {K : Type 0} → (List ℕ → K → Type 0) → List ℕ → List (Step K) → Type 0
ReadsSteps Reads bs [] = bs ≡ []
ReadsSteps Reads bs (s ∷ steps) = (text : List ℕ) × (rest : List ℕ) × (bs ≡ codes " " ++ (text ++ rest)) × ReadsStep Reads text rest s × ReadsSteps Reads rest steps

-- the row limit by its letter
abbrev pub ReadsLimit : List ℕ → Type 0
ReadsLimit bs = (limit : List ℕ) × (bs ≡ codes "L" ++ limit) × ReadsUnsigned limit row_limit

-- whether a run is set to frames that begin at 0, and the row limit
abbrev pub ReadsSetting : List ℕ → Bool → Type 0
ReadsSetting bs from_zero = (limit : List ℕ) × (bs ≡ codes "Z" ++ (mark_text from_zero ++ (codes " " ++ limit))) × ReadsLimit limit
