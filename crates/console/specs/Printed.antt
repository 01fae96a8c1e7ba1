-- What is printed of a line in memory.
-- Assumes nothing.
use Rattle.std.specs.Prelude.{ℕ, List, [], take, Ok, Err, Result}
use Rattle.output.specs.declared.cause.OutputCause.{OutputCause}

-- the line up to its end, and nothing where there is no line
abbrev pub front : List ℕ → Result ℕ OutputCause → List ℕ
front line (Ok end) = take end line
front line (Err cause) = []
