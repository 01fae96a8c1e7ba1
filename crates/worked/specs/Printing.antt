-- The whole output of the program for a file.
-- Assumes nothing.
use Rattle.std.specs.Prelude.{ℕ, List, [], ◌∷◌, ◌++◌, Ok, Err, Result}
use Rattle.sorted_list.specs.Lists.{opened}
use Rattle.rows.specs.Circles.{steps_of, blank_row}
use Rattle.rows.specs.declared.row.CircleRow.{CircleRow}
use Rattle.recording.specs.declared.answer.Answer.{Answer}
use Rattle.feed.specs.declared.fault.Fault.{Fault}
use Rattle.file_check.specs.Checks.{checked, circles_after}
use Rattle.output.specs.Texts.{steps_text, count_text, fault_text, line_or_none}
use Rattle.output.specs.declared.cause.OutputCause.{OutputCause}

-- A line for each circle, with its odds at n.
abbrev pub circle_lines : List CircleRow → ℕ → List ℕ
circle_lines [] n = []
circle_lines (r ∷ rs) n = line_or_none (steps_text (steps_of r) n) ++ circle_lines rs n

-- The line with the numbers of circles and of chains, or that of the fault.
abbrev pub last_line : Result Answer Fault → List ℕ
last_line (Ok a) = count_text a.circles a.chains
last_line (Err f) = fault_text f

-- The lines of the circles and the last line, or the line of the fault alone.
abbrev pub printed_of : Result Answer Fault → List CircleRow → List ℕ
printed_of (Ok a) found = circle_lines found 1 ++ last_line (Ok a)
printed_of (Err f) found = last_line (Err f)

-- The program's numbers: an order of 256 segments, 1,024 places for edges, 1,000,000 chains at most, and 64 places for circles.
abbrev pub printed : List ℕ → List ℕ
printed file =
    printed_of (checked 256 1024 file 1000000 64) (circles_after 256 1024 file 1000000 64 (opened blank_row 64)).records
