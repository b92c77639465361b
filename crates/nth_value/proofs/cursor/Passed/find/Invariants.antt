use Rattle.std.proofs.Common.{◌≡◌, List, Option}
use Rattle.present.specs.Counting.{Counting}
use Rattle.nth_value.specs.Cursors.{ShowsAll, Passes}
use Rattle.nth_value.proofs.cursor.Passed.find.Given as goal

abbrev pub invariant-loop-row : goal.invariant-loop-row
invariant-loop-row g l =
    (l.self.m ≡ l.initial.self.m)
    × ((rows : List (Option _)) → ShowsAll l.window rows → Passes rows l.initial.self → Counting l.self.m l.self.held rows l.row × (l.self.held.next ≡ l.row))
