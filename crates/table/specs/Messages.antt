-- The texts of refusals. Assumes nothing.
use Rattle.std.specs.Prelude.{ℕ, List, ◌++◌, codes, decimal}
use Rattle.table.specs.declared.fault.Fault.{Fault}
use Rattle.table.specs.declared.fault.Fault.TheVariants.{Empty, QuoteInside, LoneReturn, AfterQuote, Unclosed, Ragged}
use Rattle.table.specs.declared.fault.Unread.{Unread}
use Rattle.table.specs.declared.fault.Unread.TheVariants as refusals

-- what is wrong
abbrev pub fault_text : Fault → List ℕ
fault_text Empty = codes "no header: the file is empty"
fault_text QuoteInside = codes "a quote in a field that does not begin with one"
fault_text LoneReturn = codes "a carriage return without a line feed"
fault_text AfterQuote = codes "text behind a closing quote"
fault_text Unclosed = codes "a quote that is never closed"
fault_text (Ragged found expected) = decimal found ++ (codes " fields where the header has " ++ decimal expected)

-- line, column and what is wrong there, or want of memory
abbrev pub unread_text : Unread → List ℕ
unread_text refusals.Memory = codes " not enough memory"
unread_text (refusals.At line column fault) = decimal line ++ (codes ":" ++ (decimal column ++ (codes ": " ++ fault_text fault)))
