use Rattle.std.proofs.Common.{◌≡◌, ◌++◌, length, string_bytes}
use Rattle.sessions.specs.Report.{rows_text}
use Rattle.sessions.proofs.report.write_rows.Given as goal

abbrev pub invariant-loop-record : goal.invariant-loop-record
invariant-loop-record l =
    (string_bytes l.text ++ rows_text l.record-iterator.a.rest.now l.record-iterator.b.rest.now ≡ string_bytes l.initial.text ++ rows_text l.records l.answers)
    × (length l.record-iterator.b.rest.now ≡ length l.record-iterator.a.rest.now)
