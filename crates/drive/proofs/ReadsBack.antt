-- What a call is handed is read back from its text.
use Rattle.std.proofs.Common.{◌≡◌, inl, inr, ℕ, List, [], ◌∷◌, ◌++◌, codes, Result, MatchResult, sym, ap, ◌∙◌}
use Rattle.std.proofs.lemmas.Result.{MatchResult-weaker}
use Rattle.lines.specs.Fits.{ListFits, SpanFits}
use Rattle.lines.specs.Texts.{list_text, span_text}
use Rattle.drive.specs.Reads.{SpansText}

-- frames or groups, however they are written; `items` is what a list holds, and `after` what is ahead
pub spans_back : {V E : Type 0} (Memory : E → Type 0) (items : V → List (ℕ × ℕ)) (letter : ℕ) (spans : List (ℕ × ℕ)) (text rest before after : List ℕ) (r : Result V E) → SpansText letter spans text → before ≡ text ++ rest → ((spans : List (ℕ × ℕ)) (rest : List ℕ) → ListFits SpanFits spans → before ≡ (letter ∷ list_text span_text spans) ++ rest → MatchResult r (λ v. (items v ≡ spans) × (after ≡ rest)) Memory) → ((rest : List ℕ) → before ≡ letter ∷ (codes "-" ++ rest) → MatchResult r (λ v. (items v ≡ []) × (after ≡ rest)) (λ _. ⊥)) → MatchResult r (λ v. (items v ≡ spans) × (after ≡ rest)) Memory
spans_back Memory items letter spans text rest before after r (inl h) is list none = list spans rest h.0 (is ∙ ap (λ t. t ++ rest) h.1)
spans_back Memory items letter spans text rest before after r (inr h) is list none = MatchResult-weaker r (none rest (is ∙ ap (λ t. t ++ rest) h.1)) (λ v q. (q.0 ∙ sym h.0, q.1)) (λ s q. absurd q)
