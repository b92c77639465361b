-- Operations that are read are what the text shows.
use Rattle.std.proofs.Common.{◌≡◌, ◌≢◌, inl, inr, ℕ, ◌+◌, ◌-◌, ◌<◌, ◌≤◌, List, [], ◌∷◌, ◌++◌, length, take, drop, get_or, slice_index, slice_range, sym, ap, subst, ◌∙◌, arith}
use Rattle.std.proofs.lemmas.Bool.{cases_lt}
use Rattle.std.proofs.lemmas.List.{get_or-drop, get_or-take, length-drop, length-take, take-append-drop, drop-drop}
use Rattle.std.proofs.lemmas.Str.{IsCharBoundary-before_ascii, IsCharBoundary-end}
use Rattle.std.specs.Int.{IsInRange}
use Rattle.std.specs.Str.{IsCharBoundary}
use Rattle.lines.specs.Back.{EndsField}
use Rattle.lines.proofs.Passed.{slice_join}
use Rattle.lines.specs.Cursors.{Onward, ahead, passed}
use Rattle.lines.specs.declared.cursor.Cursor.{Cursor}
use Rattle.drive.specs.declared.ops.Step.{Step}
use Rattle.drive.specs.Reads.{ReadsSteps}

-- a text that begins with this byte
pub begins_with : (bs : List ℕ) (b : ℕ) → 0 < b → slice_index bs 0 ≡ b → (rest : List ℕ) × (bs ≡ b ∷ rest)
begins_with [] b some e = absurd (omega (arith, some, e))
begins_with (x ∷ rest) b some e = (rest, ap (λ y. y ∷ rest) e)

-- a byte of a part
pub part_at : (xs : List ℕ) (a b k : ℕ) → k < b - a → slice_index (slice_range xs a b) k ≡ slice_index xs (a + k)
part_at xs a b k h = get_or-take (b - a) (drop a xs) k 0 h ∙ get_or-drop a xs k 0

-- what is ahead is what is passed, and what is ahead from there
pub ahead_split : (a b : Cursor) → Onward a b → ahead a ≡ passed a b ++ ahead b
ahead_split a b h =
    let from : a.at ≤ b.at = h.1 in
    sym (take-append-drop (b.at - a.at) (ahead a)) ∙ ap (λ t. passed a b ++ t) (drop-drop (b.at - a.at) a.at a.text.now ∙ ap (λ n. drop n a.text.now) (omega arith) ∙ ap (drop b.at) (sym h.0))

-- characters begin where a word of small letters begins before a brace, and at the brace
pub word_bounds : (xs : List ℕ) (a b : ℕ) → a ≤ b → b < length xs → slice_index xs b ≡ 123 → ((k : ℕ) → a + k < b → IsInRange 97 122 (slice_index xs (a + k))) → IsCharBoundary xs a × IsCharBoundary xs b
word_bounds xs a b from within brace letters =
    let end = IsCharBoundary-before_ascii xs b within (omega (arith, brace)) in
    elim (cases_lt a b) [
      | inl some ↦ (let same : a + 0 ≡ a = omega arith in
          let first = subst (λ i. IsInRange 97 122 (slice_index xs i)) same (letters 0 (omega (arith, some))) in
          (IsCharBoundary-before_ascii xs a (omega (arith, some, within)) (omega (arith, first)), end))
      | inr none ↦ (subst (IsCharBoundary xs) (omega (arith, from, none)) end, end)
    ]

-- a field has no blank in it
pub field_filled : (a b : Cursor) → ((k : ℕ) → a.at + k < b.at → slice_index a.text.now (a.at + k) ≢ 32) → (k : ℕ) → k < length (passed a b) → slice_index (passed a b) k ≢ 32
field_filled a b filled k h e =
    let low : k < b.at - a.at = omega (arith, h, length-take (b.at - a.at) (ahead a)) in
    filled k (omega (arith, low)) (sym (part_at a.text.now a.at b.at k low) ∙ e)

-- and a blank or nothing behind it
pub field_ends : (a b : Cursor) → Onward a b → (b.at < length a.text.now → slice_index a.text.now b.at ≡ 32) → EndsField (ahead b)
field_ends a b h stops some =
    let same : b.text.now ≡ a.text.now = h.0 in
    let long = ap length same in
    let within : b.at < length a.text.now = omega (arith, some, long, length-drop b.at b.text.now) in
    get_or-drop b.at b.text.now 0 0 ∙ ap (λ n. slice_index b.text.now n) (omega arith) ∙ ap (λ t. slice_index t b.at) same ∙ stops within

-- operations that are read begin at a character
pub steps_begin : {K : Type 0} (Reads : List ℕ → K → Type 0) (a : Cursor) (steps : List (Step K)) → a.at ≤ length a.text.now → ReadsSteps Reads (ahead a) steps → IsCharBoundary a.text.now a.at
steps_begin Reads a [] within h = subst (IsCharBoundary a.text.now) (omega (arith, within, ap length h, length-drop a.at a.text.now)) (IsCharBoundary-end a.text.now)
steps_begin Reads a (s ∷ steps) within h =
    let blank : get_or (ahead a) 0 0 ≡ 32 = ap (λ t. get_or t 0 0) h.2 in
    let here : get_or a.text.now a.at 0 ≡ 32 = ap (λ n. get_or a.text.now n 0) (omega arith) ∙ sym (get_or-drop a.at a.text.now 0 0) ∙ blank in
    IsCharBoundary-before_ascii a.text.now a.at (omega (arith, ap length h.2, length-drop a.at a.text.now)) (omega (arith, here))

-- the front of a text, and what is passed from there
pub front_split : (a b : Cursor) → Onward a b → slice_range b.text.now 0 b.at ≡ take a.at a.text.now ++ passed a b
front_split a b h =
    let same : a.at - 0 ≡ a.at = omega arith in
    ap (λ t. slice_range t 0 b.at) h.0 ∙ slice_join a.text.now 0 a.at b.at (omega arith) h.1 ∙ ap (λ n. take n a.text.now ++ passed a b) same
