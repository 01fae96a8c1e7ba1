-- The number of each cause of the list.
-- Assumes nothing.
use Rattle.std.specs.Prelude.{ℕ}
use Rattle.sorted_list.specs.declared.cause.ListCause.{ListCause}
use Rattle.sorted_list.specs.declared.cause.ListCause.TheVariants.{Full}

abbrev pub cause_number : ListCause → ℕ
cause_number Full = 11
