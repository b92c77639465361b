-- The answers of all rows, partition by partition. Assumes nothing.
use Rattle.std.specs.Prelude.{Bool, cond, ◌==◌, List, [], ◌∷◌, length, map, Option}
use Rattle.std.specs.List.{flat_map, range_with_len}
use Rattle.evaluator.specs.Meaning.{Meaning}
use Rattle.options.specs.declared.frame.RowsFrame.{RowsFrame}
use Rattle.turns.specs.declared.layout.Turn.{Turn}
use Rattle.desk.specs.Parts.{part}

-- a row in front of partitions: it joins the first where it has its number
abbrev pub joined : Turn → List (List Turn) → List (List Turn)
joined t [] = (t ∷ []) ∷ []
joined t ([] ∷ ps) = (t ∷ []) ∷ ps
joined t ((u ∷ us) ∷ ps) = cond (t.partition == u.partition) ((t ∷ u ∷ us) ∷ ps) ((t ∷ []) ∷ (u ∷ us) ∷ ps)

-- rows in turn, cut where the number of the partition changes
abbrev pub parted : List Turn → List (List Turn)
parted [] = []
parted (t ∷ ts) = joined t (parted ts)

-- the answers of the rows of a partition
abbrev pub part_answers : {V A : Type 0} → Meaning V A → Bool → Option RowsFrame → List (Option V) → List Turn → List A
part_answers m wants frame cells turns = map (m.answer (part wants frame cells turns)) (range_with_len 0 (length turns))

-- the answers of all rows in turn, each over its partition
abbrev pub answers_in_turn : {V A : Type 0} → Meaning V A → Bool → Option RowsFrame → List (Option V) → List Turn → List A
answers_in_turn m wants frame cells turns = flat_map (part_answers m wants frame cells) (parted turns)
