-- The number of each cause, the word for each layer, and the fault of a report that is refused.
-- Assumes nothing.
use Rattle.std.specs.Prelude.{ℕ, List, codes}
use Rattle.text.specs.Causes.{cause_number as text_number}
use Rattle.order.specs.Causes.{cause_number as order_number}
use Rattle.recording.specs.Causes.{cause_number as search_number}
use Rattle.recording.specs.declared.cause.SearchCause.{SearchCause}
use Rattle.rules.specs.Causes.{cause_number as ledger_number}
use Rattle.feed.specs.declared.fault.Cause.{Cause}
use Rattle.feed.specs.declared.fault.Cause.TheVariants.{Text, Ledger, Order, Search}
use Rattle.feed.specs.declared.fault.Fault.{Fault}

abbrev pub number_of : Cause → ℕ
number_of (Text c) = text_number c
number_of (Ledger c) = ledger_number c
number_of (Order c) = order_number c
number_of (Search c) = search_number c

abbrev pub word_of : Cause → List ℕ
word_of (Text c) = codes "text"
word_of (Ledger c) = codes "ledger"
word_of (Order c) = codes "order"
word_of (Search c) = codes "search"

-- A report that is refused has no line.
abbrev pub search_fault : SearchCause → Fault
search_fault c = record { line = 0; column = 0; cause = Search c }
