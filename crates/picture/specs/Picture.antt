-- The text of the picture. Assumes nothing.
use Rattle.std.specs.Prelude.{ℕ, ◌+◌, ◌-◌, ◌*◌, ◌<◌, List, [], ◌∷◌, ◌++◌, length, codes, decimal, min, nat_lt, nat_le, ◌&&◌, Option, Some, None, if◌then◌else◌}
use Rattle.std.specs.Borrow.{Bor}
use Rattle.picture.specs.declared.row.Held.{Held}
use Rattle.picture.specs.declared.row.Row.{Row}
use Rattle.picture.specs.declared.row.Source.{Source}
use Rattle.picture.specs.declared.row.Source.TheVariants as source
use Rattle.picture.specs.declared.row.Undrawn.{Undrawn}
use Rattle.picture.specs.declared.row.Undrawn.TheVariants as undrawn
use Rattle.picture.specs.declared.draw.TheConstants.{STYLE}
use Rattle.picture.specs.Escape.{shown}

-- the height of the upper edge of a row's box, and of its middle
abbrev pub top : ℕ → ℕ
top i = 56 + 24 * i

abbrev pub middle : ℕ → ℕ
middle i = 65 + 24 * i

-- the height of the line on which its text stands
abbrev pub line : ℕ → ℕ
line i = 69 + 24 * i

-- the label of row i
abbrev pub label_text : ℕ → List ℕ → List ℕ
label_text i label = codes "<text x=\"12\" y=\"" ++ (decimal (line i) ++ (codes "\">" ++ (label ++ codes "</text>\n")))

-- a box with the value of row i
abbrev pub value_text : ℕ → List ℕ → List ℕ
value_text i value = codes "<rect class=\"value\" x=\"180\" y=\"" ++ (decimal (top i) ++ (codes "\" width=\"190\" height=\"18\"/>\n<text x=\"188\" y=\"" ++ (decimal (line i) ++ (codes "\">" ++ (value ++ codes "</text>\n")))))

-- an empty box
abbrev pub null_text : ℕ → List ℕ
null_text i = codes "<rect class=\"null\" x=\"180\" y=\"" ++ (decimal (top i) ++ codes "\" width=\"190\" height=\"18\"/>\n")

-- a box with the value of row i, or an empty one for NULL
abbrev pub box_text : ℕ → Option (Bor (List ℕ)) → List ℕ
box_text i (Some value) = value_text i (shown 24 value.now)
box_text i None = null_text i

-- how far the curve between two rows swings out
abbrev pub bend : ℕ → ℕ → ℕ
bend i k = 390 + 4 * min (i - k + (k - i)) 30

-- the height between the middles of two rows
abbrev pub between : ℕ → ℕ → ℕ
between i k = 65 + 12 * (i + k)

-- a curve between two heights, which swings out to x at the height between
abbrev pub path_text : ℕ → ℕ → ℕ → ℕ → List ℕ
path_text from x mid to = codes "<path class=\"answer\" d=\"M370 " ++ (decimal from ++ (codes " Q" ++ (decimal x ++ (codes " " ++ (decimal mid ++ (codes " 376 " ++ (decimal to ++ codes "\"/>\n")))))))

-- a curve from row i to row k
abbrev pub curve_text : ℕ → ℕ → List ℕ
curve_text i k = path_text (middle i) (bend i k) (between i k) (middle k)

-- the word `default` in place of a curve
abbrev pub default_text : ℕ → List ℕ
default_text i = codes "<text class=\"word\" x=\"396\" y=\"" ++ (decimal (line i) ++ codes "\">default</text>\n")

-- the number of a row that is not drawn in place of a curve
abbrev pub outside_text : ℕ → ℕ → List ℕ
outside_text i number = codes "<text class=\"word\" x=\"396\" y=\"" ++ (decimal (line i) ++ (codes "\">row " ++ (decimal number ++ codes "</text>\n")))

-- where the answer of row i comes from: a curve to its row, words where that is not drawn or for the default, nothing where there is none
abbrev pub source_text : ℕ → Source → List ℕ
source_text i (source.Row k) = if nat_lt k 10000 then curve_text i k else []
source_text i (source.Outside number) = outside_text i number
source_text i source.Default = default_text i
source_text i source.Nothing = []

-- the answer of row i as a text
abbrev pub shown_answer_text : ℕ → List ℕ → List ℕ
shown_answer_text i answer = codes "<text x=\"460\" y=\"" ++ (decimal (line i) ++ (codes "\">" ++ (answer ++ codes "</text>\n")))

-- the word for an answer that is NULL
abbrev pub null_answer_text : ℕ → List ℕ
null_answer_text i = codes "<text class=\"head\" x=\"460\" y=\"" ++ (decimal (line i) ++ codes "\">NULL</text>\n")

-- the answer of row i, or the word for NULL
abbrev pub answer_text : ℕ → Option (Bor (List ℕ)) → List ℕ
answer_text i (Some answer) = shown_answer_text i (shown 24 answer.now)
answer_text i None = null_answer_text i

-- a bar beside the rows from s up to e, the end not included
abbrev pub bar_text : ℕ → ℕ → ℕ → List ℕ
bar_text i s e = codes "<rect class=\"held\" x=\"" ++ (decimal (650 + 8 * i) ++ (codes "\" y=\"" ++ (decimal (top s) ++ (codes "\" width=\"6\" height=\"" ++ (decimal (24 * (e - s) - 6) ++ codes "\"/>\n")))))

-- the bar of the rows that are held when row i is answered, if any are
abbrev pub held_text : ℕ → Option Held → List ℕ
held_text i None = []
held_text i (Some h) = if nat_lt h.start h.end && nat_le h.end 10000 then bar_text i h.start h.end else []

-- all that is drawn of row i
abbrev pub row_text : ℕ → Row → List ℕ
row_text i r = label_text i (shown 24 r.label.now) ++ (box_text i r.value ++ (source_text i r.source ++ (answer_text i r.answer ++ held_text i r.held)))

-- what stands above n rows: the title, the style and the heads of the columns
abbrev pub head_text : ℕ → List ℕ → List ℕ
head_text n title = codes "<svg xmlns=\"http://www.w3.org/2000/svg\" width=\"" ++ (decimal (840 + 8 * n) ++ (codes "\" height=\"" ++ (decimal (top n + 12) ++ (codes "\">\n" ++ (STYLE.now ++ (codes "<text class=\"title\" x=\"12\" y=\"22\">" ++ (title ++ codes "</text>\n")))))))

-- each row, from the i-th on
abbrev pub rows_text : ℕ → List Row → List ℕ
rows_text i [] = []
rows_text i (r ∷ rs) = row_text i r ++ rows_text (i + 1) rs

-- the picture of rows
abbrev pub picture_text : List ℕ → List Row → List ℕ
picture_text title rows = head_text (length rows) (shown 80 title) ++ (rows_text 0 rows ++ codes "</svg>\n")

-- more rows than are drawn, or no memory
abbrev pub IsUndrawn : List Row → Undrawn → Type 0
IsUndrawn rows undrawn.Memory = Unit {0}
IsUndrawn rows undrawn.TooMany = 10000 < length rows
