-- Where a word ends.
use Rattle.std.proofs.Common.{◌≡◌, inl, inr, ℕ, ◌+◌, ◌-◌, ◌<◌, ◌≤◌, List, length, slice_index, slice_range, sym, ap, subst, ◌∙◌, arith}
use Rattle.std.proofs.lemmas.Bool.{cases_lt}
use Rattle.std.proofs.lemmas.List.{take_all}
use Rattle.std.proofs.lemmas.Str.{IsCharBoundary-after_ascii, IsCharBoundary-start}
use Rattle.std.specs.Int.{IsInRange}
use Rattle.std.specs.Str.{IsCharBoundary, IsUtf8}
use Rattle.lines.specs.Cursors.{Onward, passed}
use Rattle.lines.specs.declared.cursor.Cursor.{Cursor}

-- a character begins behind a word that begins the line
pub word_end : (xs : List ℕ) (a b : ℕ) → a ≡ 0 → IsUtf8 xs → b ≤ length xs → ((k : ℕ) → a + k < b → IsInRange 97 122 (slice_index xs (a + k))) → IsCharBoundary xs b
word_end xs a b start utf8 within letters =
    elim (cases_lt 0 b) [
      | inl some ↦ (let same : a + (b - 1) ≡ b - 1 = omega (arith, start) in
          let last = subst (λ i. IsInRange 97 122 (slice_index xs i)) same (letters (b - 1) (omega (arith, start, some))) in
          subst (IsCharBoundary xs) (omega (arith, some)) (IsCharBoundary-after_ascii xs (b - 1) utf8 (omega (arith, some, within)) (omega (arith, last))))
      | inr none ↦ subst (IsCharBoundary xs) (omega (arith, none)) (IsCharBoundary-start xs utf8)
    ]

-- what is passed from a line's begin to its end is the line
pub all_passed : (a b : Cursor) → a.at ≡ 0 → Onward a b → length b.text.now ≡ b.at → a.text.now ≡ passed a b
all_passed a b start h end =
    let long : length a.text.now ≤ b.at - 0 = omega (arith, ap length h.0, end) in
    sym (ap (λ n. slice_range a.text.now n b.at) start ∙ take_all (b.at - 0) a.text.now long)
