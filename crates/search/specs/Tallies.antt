-- What a report counts.
-- Assumes nothing.
use Rattle.std.specs.Prelude.{ℕ, ◌+◌, Bool, cond, ◌&&◌, List, is_err, Ok, Err, Result, ◌==◌}
use Rattle.std.specs.Result.{result_and}
use Rattle.sorted_list.specs.Lists.{Held, added, refused}
use Rattle.sorted_list.specs.declared.cause.ListCause.{ListCause}
use Rattle.sorted_list.specs.declared.cause.ListCause.TheVariants.{Full}
use Rattle.rows.specs.Orders.{rank_row}
use Rattle.rows.specs.declared.row.CircleRow.{CircleRow}
use Rattle.rows.specs.declared.step.Step.{Step}
use Rattle.recording.specs.Answers.{closed, circle_row}
use Rattle.recording.specs.declared.answer.Answer.{Answer}
use Rattle.recording.specs.declared.cause.SearchCause.{SearchCause}
use Rattle.recording.specs.declared.cause.SearchCause.TheVariants.{Budget, Places}
use Rattle.search.specs.declared.tally.Tally.{Tally}

-- The circle of the chain with these steps finds no place in a list that holds h.
abbrev pub no_place : Held CircleRow → List Step → Bool
no_place h c = closed c && refused rank_row h (circle_row c)

-- What the list holds once the circle of the chain, if it closes, was added.
abbrev pub with_circle : Held CircleRow → List Step → Held CircleRow
with_circle h c = cond (closed c) (added rank_row h (circle_row c)) h

-- What is answered where that circle is added.
abbrev pub entered : Held CircleRow → List Step → Result (Unit {0}) ListCause
entered h c = cond (no_place h c) (Err Full) (Ok tt)

-- One chain more, and what was answered where its circle was added. The first refusal stays.
abbrev pub taken : Tally → Result (Unit {0}) ListCause → Tally
taken t r = record { chains = t.chains + 1; listed = result_and t.listed r }

-- One chain more is refused where the budget is spent.
abbrev pub over_budget : Tally → ℕ → Result (Unit {0}) SearchCause
over_budget t budget = cond (t.chains == budget) (Err Budget) (Ok tt)

-- The answer where all the chains were counted, and the list has so many circles.
abbrev pub tallied : Tally → ℕ → Result Answer SearchCause
tallied t count = cond (is_err t.listed) (Err Places) (Ok (record { circles = count; chains = t.chains }))
