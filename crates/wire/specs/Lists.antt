-- Lists as C lends them.
use Rattle.std.specs.Prelude.{ℕ, Bool, List, map, position, length, drop, ◌++◌, Option, nat_lt, ◌==◌}
use Rattle.partition.specs.Table.{Frame}
use Rattle.wire.specs.declared.lists.Span.{Span}

-- the first byte that is no mark
abbrev pub mark_flaw : List ℕ → Option ℕ
mark_flaw bytes = position (λ b. nat_lt 1 b) bytes

-- the marks of bytes
abbrev pub marks_of : List ℕ → List Bool
marks_of bytes = map (λ b. b == 1) bytes

-- a span's start and end
abbrev pub pair_of : Span → Frame
pair_of s = (s.start, s.end)

-- the same spans as the library has them
abbrev pub pairs_of : List Span → List Frame
pairs_of spans = map pair_of spans

-- and back
abbrev pub span_of : Frame → Span
span_of f = record { start = f.0; «end» = f.1 }

-- a list after another was written to its front: what lies beyond stays
abbrev pub over : {X : Type 0} → List X → List X → List X
over front old = front ++ drop (length front) old
