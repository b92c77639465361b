-- Making an evaluator of frames.
use Rattle.std.specs.Prelude.{Bool, Ok, Result}
use Rattle.column.specs.declared.fault.Fault.{Fault}
use Rattle.functions.specs.declared.frames.Frames.{Frames}
use Rattle.functions.specs.declared.frames.FrameRow.{FrameRow}
use Rattle.functions.specs.declared.frames.FrameRow.TheVariants as row
use Rattle.nth_value.specs.declared.NthValue.{NthValue}
use Rattle.nth_value.specs.declared.kind.NthValueKind.TheVariants.{First, Last}
use Rattle.nth_value.specs.Nth.{new_of, making}

-- what making FIRST, LAST or NTH of this row gives; NTH may be refused
abbrev pub made_of : {V : Type 0} → FrameRow → Bool → Result (NthValue V) Fault
made_of row.First ignoring = Ok (new_of First ignoring)
made_of row.Last ignoring = Ok (new_of Last ignoring)
made_of (row.Nth n) ignoring = making n ignoring

abbrev pub frames_making : {V : Type 0} → Frames → Result (NthValue V) Fault
frames_making f = made_of f.row f.ignore_nulls
