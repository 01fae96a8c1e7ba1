-- What one line comes to: it is taken, or feeding stops there.
-- Assumes nothing.
use Rattle.std.specs.Prelude.{ℕ, List, Ok, Err, Result}
use Rattle.rows.specs.declared.event.Event.{Event}
use Rattle.text.specs.declared.fault.LineFault.{LineFault}
use Rattle.text.specs.Lines.{reading}
use Rattle.rules.specs.declared.cause.EventCause.{EventCause}
use Rattle.rules.specs.declared.cause.EventCause.TheVariants.{Ledger as in_ledger, Order as in_order}
use Rattle.rules.specs.Calls.{Answer}
use Rattle.rules.specs.States.{State, answer, after}
use Rattle.feed.specs.declared.fault.Fault.{Fault}
use Rattle.feeding.specs.declared.fault.Stop.{Stop}
use Rattle.feed.specs.declared.fault.Cause.TheVariants.{Text, Ledger, Order}

-- A line that is no event's text stops feeding at its leftmost wrong byte, one whose event is turned down in column 1.
abbrev pub text_stop : LineFault → Stop
text_stop f = record { column = f.column; cause = Text f.cause }

abbrev pub event_stop : EventCause → Stop
event_stop (in_ledger c) = record { column = 1; cause = Ledger c }
event_stop (in_order c) = record { column = 1; cause = Order c }

abbrev pub at_line : ℕ → Stop → Fault
at_line n s = record { line = n; column = s.column; cause = s.cause }

-- An event that is accepted is taken.
abbrev pub unless_stopped : Event → Answer → Result Event Stop
unless_stopped e (Ok x) = Ok e
unless_stopped e (Err c) = Err (event_stop c)

-- The text of a line is read whole before its event is checked. The limit is the order's ceiling.
abbrev pub read_as : ℕ → State → Result Event LineFault → Result Event Stop
read_as limit s (Ok e) = unless_stopped e (answer limit s e)
read_as limit s (Err f) = Err (text_stop f)

-- The event that is taken from a line.
abbrev pub line_answer : ℕ → State → List ℕ → Result Event Stop
line_answer limit s l = read_as limit s (reading l)

-- What the line makes of rows, edge list and order.
abbrev pub line_after : ℕ → State → List ℕ → State
line_after limit s l = elim (line_answer limit s l) [ Ok e ↦ after limit s e | Err stop ↦ s ]
