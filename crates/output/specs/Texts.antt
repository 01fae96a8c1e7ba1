-- The texts of the lines. A piece takes what stands before it in its line, and is put behind that.
-- Assumes nothing.
use Rattle.std.specs.Prelude.{ℕ, List, [], ◌∷◌, ◌++◌, length, Ok, Err, codes, decimal, Result}
use Rattle.feed.specs.Causes.{number_of, word_of}
use Rattle.feed.specs.declared.fault.Cause.{Cause}
use Rattle.feed.specs.declared.fault.Fault.{Fault}
use Rattle.rows.specs.Circles.{steps_of}
use Rattle.rows.specs.declared.circle.Circle.{Circle}
use Rattle.rows.specs.declared.step.Step.{Step}
use Rattle.output.specs.Odds.{odds_of}
use Rattle.output.specs.declared.cause.OutputCause.{OutputCause}

-- a label and a number
abbrev pub labelled : List ℕ → List ℕ → ℕ → List ℕ
labelled before label n = before ++ label ++ decimal n

abbrev pub ended : List ℕ → List ℕ
ended before = before ++ codes "\n"

-- the line for a fault
abbrev pub layered : List ℕ → Cause → List ℕ
layered before c = before ++ codes " layer " ++ word_of c

abbrev pub fault_text : Fault → List ℕ
fault_text f =
    ended (labelled (layered (labelled (labelled [] (codes "line ") f.line) (codes " column ") f.column)
    f.cause) (codes " cause ") (number_of f.cause))

-- one step of a circle, and steps in turn
abbrev pub stepped : List ℕ → Step → List ℕ
stepped before z =
    labelled (labelled (labelled before (codes "T") z.thread) (codes ":L") z.held) (codes ">L") z.wanted ++ codes " "

abbrev pub all_stepped : List ℕ → List Step → List ℕ
all_stepped before [] = before
all_stepped before (z ∷ zs) = all_stepped (stepped before z) zs

-- the line of a circle of these steps, or why it has no odds at n
abbrev pub with_odds : List Step → Result ℕ OutputCause → Result (List ℕ) OutputCause
with_odds zs (Ok odds) = Ok (ended (labelled (all_stepped [] zs) (codes "odds ") odds))
with_odds zs (Err cause) = Err cause

abbrev pub steps_text : List Step → ℕ → Result (List ℕ) OutputCause
steps_text zs n = with_odds zs (odds_of (length zs) n)

abbrev pub circle_text : Circle → ℕ → Result (List ℕ) OutputCause
circle_text c = steps_text (steps_of c.row)

-- a circle that has no odds has no line
abbrev pub line_or_none : Result (List ℕ) OutputCause → List ℕ
line_or_none (Ok text) = text
line_or_none (Err cause) = []

-- the line with the numbers of circles and of chains
abbrev pub count_text : ℕ → ℕ → List ℕ
count_text circles chains = ended (labelled (labelled [] (codes "circles ") circles) (codes " chains ") chains)
