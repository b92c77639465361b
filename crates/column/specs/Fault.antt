-- The number of each check, and the place that a refusal by it gives.
use Rattle.std.specs.Prelude.{ℕ}
use Rattle.column.specs.declared.fault.Fault.{Fault}
use Rattle.column.specs.declared.fault.Fault.TheVariants.{NotInteger, TooLarge, MissingArgument, TooSmall, Lengths, RowLimit, BadFrames, BadGroups, ShortGroups, Absent, ShortOutput, NoFrame, NoRowLeft, BeginsLate, PastTotal, BadFrame, TooEarly, NotFromZero, BadTotal, Unanswered}

-- the number that a refusal is known by
abbrev pub number : Fault → ℕ
number (NotInteger n) = 1
number (TooLarge n) = 2
number (MissingArgument n) = 3
number (TooSmall n) = 4
number (Lengths n) = 5
number (RowLimit n) = 6
number (BadFrames n) = 7
number (BadGroups n) = 8
number (ShortGroups n) = 9
number (Absent n) = 10
number (ShortOutput n) = 11
number (NoFrame n) = 12
number (NoRowLeft n) = 13
number (BeginsLate n) = 14
number (PastTotal n) = 15
number (BadFrame n) = 16
number (TooEarly n) = 17
number (NotFromZero n) = 18
number (BadTotal n) = 19
number (Unanswered n) = 20

-- the place that is held in the case
abbrev pub place : Fault → ℕ
place (NotInteger n) = n
place (TooLarge n) = n
place (MissingArgument n) = n
place (TooSmall n) = n
place (Lengths n) = n
place (RowLimit n) = n
place (BadFrames n) = n
place (BadGroups n) = n
place (ShortGroups n) = n
place (Absent n) = n
place (ShortOutput n) = n
place (NoFrame n) = n
place (NoRowLeft n) = n
place (BeginsLate n) = n
place (PastTotal n) = n
place (BadFrame n) = n
place (TooEarly n) = n
place (NotFromZero n) = n
place (BadTotal n) = n
place (Unanswered n) = n
