-- Lines, one after the other.
use Rattle.std.proofs.Common.{◌≡◌, ℕ, ◌+◌, ◌<◌, List, [], ◌∷◌, ◌++◌, length, take, get_or, sym, refl, ap, ◌∙◌, append_assoc, arith}
use Rattle.std.proofs.lemmas.List.{append-nil, length-take-le, length_push}
use Rattle.std.proofs.lemmas.List.Folds.{concat-append}
use Rattle.std.specs.Borrow.{Bor}
use Rattle.std.specs.List.{concat}
use Rattle.turns.specs.declared.layout.Turn.{Turn}
use Rattle.desk.specs.Texts.{AnswerLine, AnswerOf, Wrote}
use Rattle.desk.proofs.Pairs.{pairs_more}

module _ {A : Type 0} (writes : A → List ℕ → Type 0) (turns : List Turn) (answers : List A) where
  pub no_lines : (records : List (Bor (List ℕ))) (text : List ℕ) → Wrote writes turns answers (take 0 records) text text
  no_lines records text = ([], sym (append-nil text), record { as_many = refl; each = λ row d h. absurd (omega arith) })

  -- with the next
  pub one_line : (records : List (Bor (List ℕ))) (old mid new line : List ℕ) (row : ℕ) (raw : Bor (List ℕ)) (answer : A) → Wrote writes turns answers (take row records) old mid → row < length records → ((d : Bor (List ℕ)) → get_or records row d ≡ raw) → AnswerOf turns answers row answer → AnswerLine writes raw.now answer line → new ≡ mid ++ line → Wrote writes turns answers (take (row + 1) records) old new
  one_line records old mid new line row raw answer w l is of said e =
      let (lines, text, each) = w in
      let m : length (take row records) ≡ row = length-take-le row records (omega arith) in
      let m' : length (take (row + 1) records) ≡ row + 1 = length-take-le (row + 1) records (omega arith) in
      let many : length lines ≡ row = each.as_many ∙ m in
      let long : length (lines ++ line ∷ []) ≡ length lines + 1 = length_push lines line in
      let joined : concat (lines ++ line ∷ []) ≡ concat lines ++ line = concat-append lines (line ∷ []) ∙ ap (λ x. concat lines ++ x) (append-nil line) in (
        lines ++ line ∷ [],
        e ∙ ap (λ x. x ++ line) text ∙ append_assoc old (concat lines) line ∙ ap (λ x. old ++ x) (sym joined),
        record {
          as_many = omega arith;
          each = λ k d h. pairs_more (λ k r x. (a : A) × AnswerOf turns answers k a × AnswerLine writes r.now a x) records lines raw line [] row many (λ k d h. each.each k d (omega arith)) is (answer, of, said) k d (omega arith);
        },
      )
