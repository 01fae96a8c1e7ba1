-- The number of each cause for which a report is refused.
-- Assumes nothing.
use Rattle.std.specs.Prelude.{ℕ}
use Rattle.recording.specs.declared.cause.SearchCause.{SearchCause}
use Rattle.recording.specs.declared.cause.SearchCause.TheVariants.{Budget, Places}

abbrev pub cause_number : SearchCause → ℕ
cause_number Budget = 12
cause_number Places = 13
