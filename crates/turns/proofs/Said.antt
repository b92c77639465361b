-- Cells that contents say, as far as they were read.
use Rattle.std.proofs.Common.{◌≡◌, ℕ, ℤ, ◌+◌, ◌<◌, Option, List, [], ◌∷◌, ◌++◌, length, take, get_or, ap, ◌∙◌, suc, arith}
use Rattle.std.proofs.Math.Seq.{take-suc}
use Rattle.std.proofs.lemmas.Slice.Zip.{all_zipped_more}
use Rattle.table.specs.Contents.{bytes_of}
use Rattle.table.specs.declared.content.Content.{Content}
use Rattle.turns.specs.Numbers.{SayCells, SaysCell}

pub say_more : (contents : List Content) (i : ℕ) (c : Content) (cells pushed : List (Option ℤ)) (cell : Option ℤ) → i < length contents → SayCells (take i contents) cells → SaysCell (bytes_of (get_or contents i c)) cell → pushed ≡ cells ++ (cell ∷ []) → SayCells (take (i + 1) contents) pushed
say_more contents i c cells pushed cell h all says p =
    let next : i + 1 ≡ suc i = omega arith in
    let front : take (i + 1) contents ≡ take i contents ++ (get_or contents i c ∷ []) = ap (λ n. take n contents) next ∙ take-suc contents i c h in
    rw (p, front) (all_zipped_more (λ c. SaysCell (bytes_of c)) (take i contents) cells (get_or contents i c) cell all says)
