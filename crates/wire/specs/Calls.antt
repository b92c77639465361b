-- Calls on a run, in bytes.
use Rattle.std.specs.Prelude.{◌≡◌, ℕ, ◌+◌, ◌-◌, ◌*◌, ◌/◌, ◌%◌, ◌<◌, Bool, List, [], ◌∷◌, length, take, drop, get_or, Some, None, Option, nat_lt, nat_le, cond, ◌&&◌, ◌==◌}
use Rattle.std.specs.Simd.{first_chunks}
use Rattle.std.specs.Int.{w64, from_le_bytes}
use Rattle.replay.specs.declared.calls.Call.{Call}
use Rattle.replay.specs.declared.calls.Call.TheVariants.{Request, Settle, KeepMark, Close}
use Rattle.partition.specs.Table.{Frame}

-- number k of a call of eight numbers, each of eight bytes with the lowest first
abbrev pub call_number : List ℕ → ℕ → ℕ
call_number call k = from_le_bytes w64 (get_or (first_chunks 8 8 call) k [])

-- whether a list has a part from a up to b
abbrev pub has_part : {X : Type 0} → List X → ℕ → ℕ → Bool
has_part xs a b = nat_le a b && nat_le b (length xs)

-- that part
abbrev pub part : {X : Type 0} → List X → ℕ → ℕ → List X
part xs a b = take (b - a) (drop a xs)

-- which byte of a request says that it shows what is not there: its values first
abbrev pub window_flaw : {V : Type 0} → List V → List Bool → List ℕ → Option ℕ
window_flaw vs ms c =
    cond (has_part vs (call_number c 2) (call_number c 3)) (cond (has_part ms (call_number c 4) (call_number c 5)) None (Some 32)) (Some 16)

-- the byte of a call that stands for nothing
abbrev pub call_flaw : {V : Type 0} → List V → List Bool → List ℕ → Option ℕ
call_flaw vs ms c = cond (nat_lt (call_number c 0) 2) (window_flaw vs ms c) (cond (nat_lt 4 (call_number c 0)) (Some 0) None)

-- the frame of a request
abbrev pub call_frame : List ℕ → Option Frame
call_frame c = cond (call_number c 0 == 1) (Some (call_number c 6, call_number c 7)) None

-- which call the bytes of one without a flaw stand for
abbrev pub Stands : {V : Type 0} → List V → List Bool → List ℕ → Call V → Type 0
Stands vs ms c (Request w f) =
    (call_number c 0 < 2) × (w.begin ≡ call_number c 1) × (w.rows.values.now ≡ part vs (call_number c 2) (call_number c 3))
    × (w.rows.marks.now ≡ part ms (call_number c 4) (call_number c 5)) × (f ≡ call_frame c)
Stands vs ms c Settle = call_number c 0 ≡ 2
Stands vs ms c KeepMark = call_number c 0 ≡ 3
Stands vs ms c (Close n) = (call_number c 0 ≡ 4) × (n ≡ call_number c 1)

-- the calls of a list of bytes, each of 64
abbrev pub calls_in : List ℕ → List (List ℕ)
calls_in bytes = first_chunks 64 (length bytes / 64) bytes

-- a flaw of call k, by its byte in the list
abbrev pub flaw_at : ℕ → Option ℕ → Option ℕ → Option ℕ
flaw_at k None next = next
flaw_at k (Some byte) next = Some (k * 64 + byte)

-- the first flaw of calls, the first of them call k; past them `next`
abbrev pub flaw_from : {V : Type 0} → List V → List Bool → Option ℕ → ℕ → List (List ℕ) → Option ℕ
flaw_from vs ms next k [] = next
flaw_from vs ms next k (c ∷ cs) = flaw_at k (call_flaw vs ms c) (flaw_from vs ms next (k + 1) cs)

-- bytes past the last whole call
abbrev pub rest_flaw : List ℕ → Option ℕ
rest_flaw bytes = cond (length bytes % 64 == 0) None (Some (length bytes / 64 * 64))

-- the first flaw of a list of calls
abbrev pub calls_flaw : {V : Type 0} → List V → List Bool → List ℕ → Option ℕ
calls_flaw vs ms bytes = flaw_from vs ms (rest_flaw bytes) 0 (calls_in bytes)

-- the first n of these bytes stand for the calls
pub record AllStand {V : Type 0} (vs : List V) (ms : List Bool) (cs : List (List ℕ)) (n : ℕ) (calls : List (Call V)) : Type 0 where
  pub as_many : length calls ≡ n
  pub each : (k : ℕ) (x : Call V) → k < n → Stands vs ms (get_or cs k []) (get_or calls k x)
