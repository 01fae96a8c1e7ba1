-- What is printed of a line that was put into 1,024 bytes of zeros.
-- Assumes nothing.
use Rattle.std.proofs.Common.{◌≡◌, ℕ, List, replicate, Ok, Err, Result, refl, arith}
use Rattle.std.proofs.lemmas.Grind.{common_steps}
use Rattle.output.specs.Lines.{answer, memory_after}
use Rattle.output.specs.Texts.{line_or_none}
use Rattle.output.specs.declared.cause.OutputCause.{OutputCause}
use Rattle.console.specs.Printed.{front}

pub front_text : (text : Result (List ℕ) OutputCause) (line : List ℕ) (end : Result ℕ OutputCause) →
    end ≡ answer text (replicate 1024 0) → line ≡ memory_after text (replicate 1024 0) → front line end ≡ line_or_none text
front_text (Ok text) line end e m = rw (e, m) (grind (arith, common_steps))
front_text (Err cause) line end e m = rw e refl
