-- The number of each cause for which an event is turned down.
-- Assumes nothing.
use Rattle.std.specs.Prelude.{ℕ}
use Rattle.order.specs.Causes.{cause_number as order_number}
use Rattle.rules.specs.declared.cause.LedgerCause.{LedgerCause}
use Rattle.rules.specs.declared.cause.LedgerCause.TheVariants.{Number, NotLive, Holding, Taken, NotHeld, NotUnborn, NotStarted, Edges}
use Rattle.rules.specs.declared.cause.EventCause.{EventCause}
use Rattle.rules.specs.declared.cause.EventCause.TheVariants.{Ledger, Order}

abbrev pub cause_number : LedgerCause → ℕ
cause_number Number = 1
cause_number NotLive = 2
cause_number Holding = 3
cause_number Taken = 4
cause_number NotHeld = 5
cause_number NotUnborn = 6
cause_number NotStarted = 7
cause_number Edges = 10

abbrev pub number_of : EventCause → ℕ
number_of (Ledger c) = cause_number c
number_of (Order c) = order_number c
