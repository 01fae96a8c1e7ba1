-- What a report answers, and what the list of circles holds after it.
-- Assumes nothing.
use Rattle.std.specs.Prelude.{ℕ, ◌-◌, Bool, cond, List, length, replicate, Ok, Err, Result, nat_lt}
use Rattle.sorted_list.specs.Lists.{Held, opened}
use Rattle.rows.specs.Circles.{blank_row}
use Rattle.rows.specs.declared.edge.Edge.{Edge}
use Rattle.rows.specs.declared.row.CircleRow.{CircleRow}
use Rattle.recording.specs.declared.answer.Answer.{Answer}
use Rattle.recording.specs.declared.cause.SearchCause.{SearchCause}
use Rattle.recording.specs.declared.cause.SearchCause.TheVariants.{Budget, Places}
use Rattle.recording.specs.Enumeration.{chains}
use Rattle.recording.specs.Answers.{circles}

-- Refused where there are more chains than the budget, and then where there are more circles than places.
abbrev pub reply_to : ℕ → List CircleRow → ℕ → ℕ → Result Answer SearchCause
reply_to chain_count found budget places =
    cond (nat_lt budget chain_count) (Err Budget)
    (cond (nat_lt places (length found)) (Err Places) (Ok (record { circles = length found; chains = chain_count })))

-- The answer of a report.
abbrev pub reply : List Edge → (ℕ → ℕ → Bool) → ℕ → ℕ → Result Answer SearchCause
reply rows precedes budget places = reply_to (length (chains rows precedes)) (circles rows precedes) budget places

-- What a list with some places holds after a report: the circles ascending and blanks behind them, and after a refusal blanks alone.
abbrev pub listed : Result Answer SearchCause → List CircleRow → ℕ → Held CircleRow
listed (Ok a) found places = record { records = found; free = replicate (places - length found) blank_row }
listed (Err e) found places = opened blank_row places

abbrev pub reported : List Edge → (ℕ → ℕ → Bool) → ℕ → ℕ → Held CircleRow
reported rows precedes budget places = listed (reply rows precedes budget places) (circles rows precedes) places
