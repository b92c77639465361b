use Rattle.std.proofs.Common.{◌≡◌, ◌+◌, ◌++◌, drop, vec_items}
use Rattle.options.specs.Words.{spread, words_from}
use Rattle.options.proofs.words.filled.Given as goal

-- the words so far, and those of the pieces that are left; the column, and what is left of the text
abbrev pub invariant-loop-piece : goal.invariant-loop-piece
invariant-loop-piece l =
    (vec_items l.words ++ words_from l.column (drop l.piece-index l.pieces) ≡ words_from 1 l.pieces)
    × (l.column + spread (drop l.piece-index l.pieces) ≡ 1 + spread l.pieces)
