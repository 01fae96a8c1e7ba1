-- What a line leaves in the memory that is lent for it.
-- Assumes nothing.
use Rattle.std.specs.Prelude.{ℕ, ◌-◌, Bool, cond, List, ◌++◌, length, replicate, Ok, Err, Result, nat_lt}
use Rattle.output.specs.declared.cause.OutputCause.{OutputCause}
use Rattle.output.specs.declared.cause.OutputCause.TheVariants.{Memory}

-- a line wants 1,024 bytes, however long it is
abbrev pub too_short : List ℕ → Bool
too_short memory = nat_lt (length memory) 1024

-- the text, and zeros up to the size
abbrev pub written : List ℕ → ℕ → List ℕ
written text size = text ++ replicate (size - length text) 0

-- what is answered for a text, or for the cause why there is none
abbrev pub answer : Result (List ℕ) OutputCause → List ℕ → Result ℕ OutputCause
answer (Ok text) memory = cond (too_short memory) (Err Memory) (Ok (length text))
answer (Err cause) memory = Err cause

-- what the memory then holds
abbrev pub memory_after : Result (List ℕ) OutputCause → List ℕ → List ℕ
memory_after (Ok text) memory = cond (too_short memory) memory (written text (length memory))
memory_after (Err cause) memory = memory
