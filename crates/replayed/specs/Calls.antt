-- The texts of calls.
use Rattle.std.specs.Prelude.{◌≡◌, ◌≤◌, ℕ, Bool, false, not, nat_eq, List, [], ◌∷◌, ◌++◌, codes, Option, Some, None}
use Rattle.lines.specs.Reads.{ReadsSpan, ReadsUnsigned}
use Rattle.replayed.specs.declared.calls.Op.{Op}
use Rattle.replayed.specs.declared.calls.Op.TheVariants as op

-- nothing, or a blank and the frame
abbrev pub ReadsFrame : List ℕ → Option (ℕ × ℕ) → Type 0
ReadsFrame bs None = bs ≡ []
ReadsFrame bs (Some frame) = (span : List ℕ) × (bs ≡ codes " " ++ span) × ReadsSpan span frame

-- the row shown first, the row after the last one, and perhaps a frame, with a blank before each
abbrev pub ReadsRequest : List ℕ → ℕ → ℕ → Option (ℕ × ℕ) → Type 0
ReadsRequest bs from to frame = (first : List ℕ) × (last : List ℕ) × (span : List ℕ) × (bs ≡ codes " " ++ (first ++ (codes " " ++ (last ++ span)))) × ReadsUnsigned first from × ReadsUnsigned last to × ReadsFrame span frame

-- a blank and the number of rows
abbrev pub ReadsClose : List ℕ → ℕ → Type 0
ReadsClose bs total = (digits : List ℕ) × (bs ≡ codes " " ++ digits) × ReadsUnsigned digits total

-- the word of a call, and what stands behind it; of so many rows
abbrev pub ReadsNamed : ℕ → List ℕ → List ℕ → Op → Type 0
ReadsNamed rows name bs (op.Request from to frame) = (name ≡ codes "request") × ReadsRequest bs from to frame × (from ≤ to) × (to ≤ rows)
ReadsNamed rows name bs op.Settle = (name ≡ codes "settle") × (bs ≡ [])
ReadsNamed rows name bs op.Mark = (name ≡ codes "mark") × (bs ≡ [])
ReadsNamed rows name bs (op.Close total) = (name ≡ codes "close") × ReadsClose bs total
ReadsNamed rows name bs op.Finish = (name ≡ codes "finish") × (bs ≡ [])

-- a call's line, of a column with so many rows
abbrev pub ReadsOp : ℕ → List ℕ → Op → Type 0
ReadsOp rows bs o = (name : List ℕ) × (behind : List ℕ) × (bs ≡ name ++ behind) × ReadsNamed rows name behind o

-- a line that is neither empty nor begins with `#`
abbrev pub is_call : List ℕ → Bool
is_call [] = false
is_call (b ∷ bs) = not (nat_eq b 35)
