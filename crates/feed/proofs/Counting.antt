-- How many events the lines say, counted on from the lines before them.
-- Assumes nothing.
use Rattle.std.proofs.Common.{ℕ, ◌+◌, List, length, Ok, Result}
use Rattle.text.specs.Pieces.{and_then}
use Rattle.feed.specs.declared.fault.Fault.{Fault}
use Rattle.feed.specs.Files.{events_from}

abbrev pub counted_from : ℕ → List (List ℕ) → Result ℕ Fault
counted_from n ls = and_then (events_from (n + 1) ls) (λ es. Ok (n + length es))
