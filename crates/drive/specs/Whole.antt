-- What a call on a whole partition is handed, and what it tells.
use Rattle.std.specs.Prelude.{◌≡◌, ℕ, min, Bool, List, ◌++◌, codes, map, length, string_bytes, vec_items, Ok, Err, MatchResult, Result, String}
use Rattle.std.specs.List.{range_with_len}
use Rattle.column.specs.declared.fault.Fault.{Fault}
use Rattle.column.specs.Cells.{cells}
use Rattle.column.specs.Refusal.{or_else, column_refusal}
use Rattle.lines.specs.Texts.{span_text}
use Rattle.lines.specs.declared.stop.Stop.{Stop}
use Rattle.lines.specs.declared.stop.Stop.TheVariants.{Memory}
use Rattle.partition.specs.Peers.{peers}
use Rattle.partition.specs.Table.{Input, row_count, whole_refusal, places_refusal}
use Rattle.evaluator.specs.Meaning.{Meaning, partition}
use Rattle.drive.specs.declared.handed.Handed.{Handed}
use Rattle.drive.specs.declared.handed.Lengths.{Lengths}
use Rattle.drive.specs.Outcomes.{line_text, refusal_text, told_text}
use Rattle.drive.specs.Reads.{HandedText}

-- the partition that is handed in
abbrev pub handed_input : {V : Type 0} → Handed V → Input V
handed_input h = record { values = vec_items h.column.values; marks = vec_items h.column.marks; frames = vec_items h.frames; groups = vec_items h.groups }

-- the slots of output lists of these lengths
abbrev pub slot_count : Lengths → ℕ
slot_count l = min l.values l.marks

-- the answer of each row
abbrev pub row_answers : {V A : Type 0} → Meaning V A → Bool → Input V → List A
row_answers m wants_frames x = map (m.answer (partition wants_frames x)) (range_with_len 0 (row_count x))

-- the text of the call: the check that fails first, or else the answers
abbrev pub whole_text : {V A : Type 0} → (V → V → Bool) → (A → List ℕ) → Bool → Bool → Meaning V A → Input V → ℕ → List ℕ
whole_text same answer_text wants_frames wants_groups m x slots = told_text answer_text (whole_refusal same wants_frames wants_groups x slots) (row_answers m wants_frames x)

-- the text of a call of an evaluator that was made, or refused
abbrev pub made_text : {E V A : Type 0} → (V → V → Bool) → (A → List ℕ) → Bool → Bool → (E → Meaning V A) → Result E Fault → Input V → ℕ → List ℕ
made_text same answer_text wants_frames wants_groups meaning (Ok e) x slots = whole_text same answer_text wants_frames wants_groups (meaning e) x slots
made_text same answer_text wants_frames wants_groups meaning (Err f) x slots = refusal_text f

-- of a line from here on, with the text of a call that is handed this: it and the outcome, or there is no memory
abbrev pub TellsWhole : {E V A Z : Type 0} → (V → V → Bool) → (V → List ℕ) → (V → Type 0) → (A → List ℕ) → (Lengths → List ℕ → Type 0) → Bool → Bool → (E → Meaning V A) → Result E Fault → List ℕ → List ℕ → Result (String Z) Stop → Type 0
TellsWhole {V} same one Fits answer_text Sized wants_frames wants_groups meaning made line ahead r = (x : Input V) (l : Lengths) (text lengths : List ℕ) → HandedText one Fits x text → Sized l lengths → ahead ≡ text ++ (codes " O" ++ lengths) → MatchResult r (λ s. string_bytes s ≡ line_text line (made_text same answer_text wants_frames wants_groups meaning made x (slot_count l))) (λ stop. stop ≡ Memory)

-- the text of a call for the peer groups of a column with these lists: the check that fails first, or else the groups
abbrev pub groups_text : {V : Type 0} → (V → V → Bool) → List V → List Bool → ℕ → List ℕ
groups_text same values marks places =
    told_text span_text (or_else (column_refusal (length values) (length marks)) (places_refusal (length (peers same (cells values marks))) places)) (peers same (cells values marks))
