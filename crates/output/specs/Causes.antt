-- The number of each cause of the output layer.
-- Assumes nothing.
use Rattle.std.specs.Prelude.{ℕ}
use Rattle.output.specs.declared.cause.OutputCause.{OutputCause}
use Rattle.output.specs.declared.cause.OutputCause.TheVariants.{Odds, Memory}

abbrev pub cause_number : OutputCause → ℕ
cause_number Odds = 18
cause_number Memory = 19
