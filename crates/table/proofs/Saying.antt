-- The contents of fields, as far as they were read.
use Rattle.std.proofs.Common.{◌≡◌, ℕ, List, [], ◌∷◌, ◌++◌, length, get_or, Bor, ap, ◌∙◌, arith, below_more, length-append}
use Rattle.std.proofs.lemmas.List.{get_or_append_left}
use Rattle.std.proofs.Math.Seq.{get_or-append_seam}
use Rattle.table.specs.declared.content.Content.{Content}
use Rattle.table.specs.Columns.{SayFields}
use Rattle.table.specs.Contents.{Says, bytes_of}

-- the content of one field more
pub says_more : (place : ℕ → ℕ) (fields : List (Bor (List ℕ))) (contents : List Content) (c : Content) (pushed : List Content) → pushed ≡ contents ++ (c ∷ []) → SayFields place fields contents → ((e : Bor (List ℕ)) → Says (get_or fields (place (length contents)) e).now (bytes_of c)) → SayFields place fields pushed
says_more place fields contents c pushed p all last k d e h =
    let says : ℕ → Type 0 = λ k. (d : Content) (e : Bor (List ℕ)) → Says (get_or fields (place k) e).now (bytes_of (get_or pushed k d)) in
    below_more says (length contents)
    (λ k h d e content f. ap bytes_of (ap (λ l. get_or l k d) p ∙ get_or_append_left contents (c ∷ []) d k h) ∙ all k d e h content f)
    (λ d e content f. ap bytes_of (ap (λ l. get_or l (length contents) d) p ∙ get_or-append_seam contents c [] d) ∙ last e content f)
    k (omega (arith, h, ap length p, length-append contents (c ∷ []))) d e
