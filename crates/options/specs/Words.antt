-- The words of a text. Assumes nothing.
use Rattle.std.specs.Prelude.{◌≡◌, ℕ, ◌+◌, ◌<◌, List, [], ◌∷◌, map, length, cond, IsTrue, nat_le, vec_items, slice_index_or}
use Rattle.std.specs.Borrow.{Bor}
use Rattle.std.specs.List.{join_with_byte, sum_by}
use Rattle.std.specs.Str.{str_eq_ignore_ascii_case}
use Rattle.std.specs.Str.Iter.{LacksByte}
use Rattle.options.specs.declared.words.Word.{Word}
use Rattle.options.specs.declared.words.Words.{Words}

-- the text is this word, small letters or capital
abbrev pub Is : List ℕ → List ℕ → Type 0
Is word text = IsTrue (str_eq_ignore_ascii_case text word)

-- the text of a word
abbrev pub text_of : Word → List ℕ
text_of w = w.text.now

-- the text of word k, empty past the last one
abbrev pub word_at : Words → ℕ → List ℕ
word_at ws k = slice_index_or (map text_of (vec_items ws.list)) k []

-- the column of word k, past the last one that behind the text
abbrev pub column_at : Words → ℕ → ℕ
column_at ws k = slice_index_or (map (λ w. w.column) (vec_items ws.list)) k ws.end

-- no piece has a blank
abbrev pub Apart : List (Bor (List ℕ)) → Type 0
Apart ps = (k : ℕ) (d : Bor (List ℕ)) → k < length ps → LacksByte 32 (slice_index_or ps k d).now

-- of pieces from a column on, with a blank between each and the next, those that are not empty, each with its column
abbrev pub words_from : ℕ → List (Bor (List ℕ)) → List Word
words_from c [] = []
words_from c (p ∷ ps) = cond (nat_le 1 (length p.now)) (record { text = p; column = c } ∷ words_from (c + length p.now + 1) ps) (words_from (c + length p.now + 1) ps)

-- the bytes of pieces, with a blank behind each
abbrev pub spread : List (Bor (List ℕ)) → ℕ
spread ps = sum_by (λ p. length p.now + 1) ps

-- the words of a text: it is cut at its blanks, and the pieces between them that are not empty are its words
pub record Cut (text : List ℕ) (ws : Words) : Type 0 where
  pub pieces : List (Bor (List ℕ))
  pub cut : text ≡ join_with_byte 32 (map (λ p. p.now) pieces)
  pub apart : Apart pieces
  pub words : vec_items ws.list ≡ words_from 1 pieces
  pub end : ws.end ≡ length text + 1
