-- The line for a fault by its pieces, each by itself.
-- Assumes nothing.
use Rattle.std.proofs.Common.{◌≡◌, ℕ, List, ◌++◌, codes, decimal, append_assoc}
use Rattle.feed.specs.Causes.{number_of, word_of}
use Rattle.feed.specs.declared.fault.Fault.{Fault}
use Rattle.output.specs.Texts.{fault_text}

abbrev piece : List ℕ → ℕ → List ℕ
piece label n = label ++ decimal n

pub fault_pieces : (f : Fault) → fault_text f
    ≡ piece (codes "line ") f.line ++ (piece (codes " column ") f.column ++
    ((codes " layer " ++ word_of f.cause) ++ (piece (codes " cause ") (number_of f.cause) ++ codes "\n")))
fault_pieces f = simp append_assoc
