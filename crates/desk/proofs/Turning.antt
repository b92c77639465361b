-- Each row of a table has a turn.
use Rattle.std.proofs.Common.{◌≡◌, ℕ, ◌-◌, ◌<◌, List, length, get_or, vec_items, refl, ap, ◌∙◌, arith}
use Rattle.std.proofs.lemmas.List.{length-replicate, get_or_default}
use Rattle.std.proofs.lemmas.List.Sorted.{Contains-permutation, length_permutation}
use Rattle.std.specs.List.Sorted.{IsPermutation}
use Rattle.options.specs.declared.asked.Asked.{Asked}
use Rattle.table.specs.TablesLemmas.{table_fits}
use Rattle.turns.specs.Numbers.{Alike, Ordered}
use Rattle.turns.specs.declared.layout.Turn.{Turn}
use Rattle.desk.specs.Columns.{IsSheet, Sheet}
use Rattle.desk.specs.Rows.{InTurn, unnumbered}
use Rattle.desk.specs.Texts.{AllRows, HaveTurns}
use Rattle.desk.proofs.Refining.{refined_long}

none : Turn
none = record { partition = 0; order = 0; row = 0 }

-- each row of a list of rows has a turn
have_turns : (rows turns : List Turn) → IsPermutation rows turns → ((i : ℕ) → i < length rows → (get_or rows i none).row ≡ i) → HaveTurns (length turns) turns
have_turns rows turns p is row h =
    let within : row < length rows = omega (arith, h, length_permutation rows turns p) in
    let x = get_or rows row none in
    let (place, below, at) = Contains-permutation rows turns x p (row, within, get_or_default rows row x none within) in
    (place, below, λ d. ap (λ (t : Turn). t.row) (get_or_default turns place d x below ∙ at) ∙ is row within)

pub all_rows : (text : List ℕ) (s : Sheet) → IsSheet text s → (asked : Asked) (partitions orders : List ℕ) (turns : List Turn) → InTurn s asked partitions orders turns → AllRows s.records turns
all_rows text s h asked partitions orders turns t =
    let zeros : length (unnumbered s) ≡ length s.records - 1 = length-replicate (length s.records - 1) 0 in
    let p = refined_long Alike s (length s.records - 1) text h refl (unnumbered s) partitions (vec_items asked.partition_by) zeros t.parts in
    let o = refined_long Ordered s (length s.records - 1) text h refl (unnumbered s) orders (vec_items asked.order_by) zeros t.order in
    let all = t.file.all in
    let same = length_permutation t.rows turns t.all in
    let fits = table_fits h.table in
    (omega (arith, fits.some), have_turns t.rows turns t.all (λ i l. ap (λ (t : Turn). t.row) (t.file.each i none l)))
