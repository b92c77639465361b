-- Numbers that stand at a place of a text.
use Rattle.std.proofs.Common.{◌≡◌, inl, inr, ℕ, zero, suc, ◌+◌, ◌-◌, ◌<◌, ◌≤◌, ◌==◌, Bool, true, false, cond, List, [], ◌∷◌, ◌++◌, length, take, drop, get_or, slice_get, slice_index, slice_range, Some, sym, refl, ap, ◌∙◌, subst, arith}
use Rattle.std.proofs.Math.Seq.{drop-nil, take-append_seam, drop-append_seam}
use Rattle.std.proofs.lemmas.Bool.{cases_lt}
use Rattle.std.proofs.lemmas.Fmt.{IsAscii-from_digits}
use Rattle.std.proofs.lemmas.List.{get_or-drop, get_or_append_left, get_or-append-add, length-append, length-drop, drop-drop}
use Rattle.std.proofs.lemmas.Str.{IsCharBoundary-before_ascii, IsCharBoundary-after_ascii}
use Rattle.std.proofs.lemmas.Str.Parse.{digit_at}
use Rattle.std.specs.Int.{IsInRange}
use Rattle.std.specs.Str.{IsAscii, IsCharBoundary, IsUtf8}
use Rattle.std.specs.Str.Parse.{AllDigits, IsNumeral}
use Rattle.lines.specs.Back.{Ends, IsNumber}

pub next_byte : (xs : List ℕ) (a b : ℕ) (rest : List ℕ) → drop a xs ≡ b ∷ rest → (slice_get xs a ≡ Some b) × (drop (a + 1) xs ≡ rest)
next_byte [] a b rest e = let n = sym (drop-nil a) ∙ e in cc
next_byte (x ∷ xs) zero b rest e = (cc, cc)
next_byte (x ∷ xs) (suc a) b rest e =
    let h = next_byte xs a b rest e in
    let step : suc a + 1 ≡ suc (a + 1) = omega arith in
    (h.0, ap (λ n. drop n (x ∷ xs)) step ∙ h.1)

pub byte_at : (xs bs : List ℕ) (a i : ℕ) → drop a xs ≡ bs → slice_index xs (a + i) ≡ get_or bs i 0
byte_at xs bs a i e = sym (get_or-drop a xs i 0) ∙ ap (λ l. get_or l i 0) e

pub room : (xs bs rest : List ℕ) (a : ℕ) → drop a xs ≡ bs ++ rest → length xs - a ≡ length bs + length rest
room xs bs rest a e = sym (length-drop a xs) ∙ ap length e ∙ length-append bs rest

pub seam : (ds rest : List ℕ) → get_or (ds ++ rest) (length ds) 0 ≡ get_or rest 0 0
seam ds rest = ap (λ k. get_or (ds ++ rest) k 0) (omega arith) ∙ get_or-append-add ds rest 0 0

-- a run of bytes that pass a test ends where it was shown to
pub run_ends : (P : ℕ → Type 0) (xs bs rest : List ℕ) (a e : ℕ) → drop a xs ≡ bs ++ rest → ((k : ℕ) → k < length bs → P (get_or bs k 0)) → (0 < length rest → ¬ (P (slice_index rest 0))) → a ≤ e → e ≤ length xs → (e < length xs → ¬ (P (slice_index xs e))) → ((k : ℕ) → a + k < e → P (slice_index xs (a + k))) → e ≡ a + length bs
run_ends P xs bs rest a e is passes ends low high stops each =
    let long : length xs - a ≡ length bs + length rest = room xs bs rest a is in
    elim (cases_lt e (a + length bs)) [
      | inl short ↦ absurd (stops (omega arith) (subst P (sym (get_or_append_left bs rest 0 (e - a) (omega arith)) ∙ sym (byte_at xs (bs ++ rest) a (e - a) is) ∙ ap (slice_index xs) (omega arith)) (passes (e - a) (omega arith))))
      | inr far ↦ elim (cases_lt (a + length bs) e) [
        | inl past ↦ absurd (ends (omega arith) (subst P (byte_at xs (bs ++ rest) a (length bs) is ∙ seam bs rest) (each (length bs) past)))
        | inr at ↦ omega arith
      ]
    ]

digits_end : (xs ds rest : List ℕ) (a e : ℕ) → drop a xs ≡ ds ++ rest → AllDigits 10 ds → Ends rest → a ≤ e → e ≤ length xs → (e < length xs → ¬ (IsInRange 48 57 (slice_index xs e))) → ((k : ℕ) → a + k < e → IsInRange 48 57 (slice_index xs (a + k))) → e ≡ a + length ds
digits_end xs ds rest a e is digits ends = run_ends (IsInRange 48 57) xs ds rest a e is (λ k h. digit_at ds k digits h) (λ h. ends)

signed_end : (m : Bool) (b : ℕ) (xs ds rest : List ℕ) (a d e : ℕ) → drop a xs ≡ b ∷ (ds ++ rest) → Ends rest → IsNumeral 10 (drop (cond m 1 0) (b ∷ ds)) → d ≡ a + cond m 1 0 → d ≤ e → e ≤ length xs → (e < length xs → ¬ (IsInRange 48 57 (slice_index xs e))) → ((k : ℕ) → d + k < e → IsInRange 48 57 (slice_index xs (d + k))) → e ≡ a + length (b ∷ ds)
signed_end true b xs ds rest a d e is ends n begin low high stops each =
    let behind = ap (λ k. drop k xs) begin ∙ (next_byte xs a b (ds ++ rest) is).1 in
    omega (arith, begin, digits_end xs ds rest d e behind n.1 ends low high stops each)
signed_end false b xs ds rest a d e is ends n begin low high stops each =
    omega (arith, begin, digits_end xs (b ∷ ds) rest d e (ap (λ k. drop k xs) (omega arith) ∙ is) n.1 ends low high stops each)

pub number_ends : (xs bs rest : List ℕ) (a d e : ℕ) → drop a xs ≡ bs ++ rest → Ends rest → IsNumber bs → d ≡ a + cond (slice_index xs a == 45) 1 0 → d ≤ e → e ≤ length xs → (e < length xs → ¬ (IsInRange 48 57 (slice_index xs e))) → ((k : ℕ) → d + k < e → IsInRange 48 57 (slice_index xs (d + k))) → e ≡ a + length bs
number_ends xs [] rest a d e is ends n begin low high stops each = absurd (omega (arith, n.0))
number_ends xs (b ∷ ds) rest a d e is ends n begin low high stops each =
    let first : slice_index xs a ≡ b = ap (slice_index xs) (omega arith) ∙ byte_at xs (b ∷ (ds ++ rest)) a 0 is in
    signed_end (b == 45) b xs ds rest a d e is ends n (begin ∙ ap (λ c. a + cond (c == 45) 1 0) first) low high stops each

number_byte : (m : Bool) (b : ℕ) (ds : List ℕ) → (b == 45) ≡ m → IsNumeral 10 (drop (cond m 1 0) (b ∷ ds)) → (i : ℕ) → get_or (b ∷ ds) i 0 < 128
number_byte true b ds e n zero = grind (arith, e)
number_byte true b ds e n (suc i) = IsAscii-from_digits ds n.1 i
number_byte false b ds e n i = IsAscii-from_digits (b ∷ ds) n.1 i

number_ascii : (bs : List ℕ) → IsNumber bs → IsAscii bs
number_ascii [] n i = absurd (omega (arith, n.0))
number_ascii (b ∷ ds) n i = number_byte (b == 45) b ds refl n i

some_bytes : (bs : List ℕ) → IsNumber bs → 0 < length bs
some_bytes [] n = absurd (omega (arith, n.0))
some_bytes (b ∷ ds) n = omega arith

byte_of : (xs bs rest : List ℕ) (a i : ℕ) → drop a xs ≡ bs ++ rest → i < length bs → get_or bs i 0 < 128 → get_or xs (a + i) 0 < 128
byte_of xs bs rest a i e h plain = subst (λ c. c < 128) (sym (get_or_append_left bs rest 0 i h) ∙ sym (byte_at xs (bs ++ rest) a i e)) plain

-- where an ASCII byte stands, or stood, a character begins
pub ascii_begins : (xs bs rest : List ℕ) (a : ℕ) → drop a xs ≡ bs ++ rest → 0 < length bs → get_or bs 0 0 < 128 → IsCharBoundary xs a
ascii_begins xs bs rest a e some plain =
    let long = room xs bs rest a e in
    IsCharBoundary-before_ascii xs a (omega arith) (subst (λ i. get_or xs i 0 < 128) (omega arith) (byte_of xs bs rest a 0 e some plain))

pub ascii_stops : (xs bs rest : List ℕ) (a : ℕ) → IsUtf8 xs → drop a xs ≡ bs ++ rest → 0 < length bs → get_or bs (length bs - 1) 0 < 128 → IsCharBoundary xs (a + length bs)
ascii_stops xs bs rest a utf8 e some plain =
    let long = room xs bs rest a e in
    subst (IsCharBoundary xs) (omega arith) (IsCharBoundary-after_ascii xs (a + (length bs - 1)) utf8 (omega arith) (byte_of xs bs rest a (length bs - 1) e (omega arith) plain))

pub number_begins : (xs bs rest : List ℕ) (a : ℕ) → drop a xs ≡ bs ++ rest → IsNumber bs → IsCharBoundary xs a
number_begins xs bs rest a e n = ascii_begins xs bs rest a e (some_bytes bs n) (number_ascii bs n 0)

pub number_stops : (xs bs rest : List ℕ) (a : ℕ) → IsUtf8 xs → drop a xs ≡ bs ++ rest → IsNumber bs → IsCharBoundary xs (a + length bs)
number_stops xs bs rest a utf8 e n = ascii_stops xs bs rest a utf8 e (some_bytes bs n) (number_ascii bs n (length bs - 1))

pub number_text : (xs bs rest : List ℕ) (a : ℕ) → drop a xs ≡ bs ++ rest → slice_range xs a (a + length bs) ≡ bs
number_text xs bs rest a e = ap (λ k. take k (drop a xs)) (omega arith) ∙ ap (take (length bs)) e ∙ take-append_seam bs rest

pub left_behind : (xs bs rest : List ℕ) (a : ℕ) → drop a xs ≡ bs ++ rest → drop (a + length bs) xs ≡ rest
left_behind xs bs rest a e = sym (drop-drop (length bs) a xs) ∙ ap (drop (length bs)) e ∙ drop-append_seam bs rest
