-- The number of each cause of the order.
-- Assumes nothing.
use Rattle.std.specs.Prelude.{ℕ}
use Rattle.order.specs.declared.cause.OrderCause.{OrderCause}
use Rattle.order.specs.declared.cause.OrderCause.TheVariants.{End, Ceiling}

abbrev pub cause_number : OrderCause → ℕ
cause_number End = 8
cause_number Ceiling = 9
