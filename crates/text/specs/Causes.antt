-- The number of each cause of the text layer.
-- Assumes nothing.
use Rattle.std.specs.Prelude.{ℕ}
use Rattle.text.specs.declared.fault.TextCause.{TextCause}
use Rattle.text.specs.declared.fault.TextCause.TheVariants.{Letter, Byte, Digit, Size}

abbrev pub cause_number : TextCause → ℕ
cause_number Letter = 14
cause_number Byte = 15
cause_number Digit = 16
cause_number Size = 17
