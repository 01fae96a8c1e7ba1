-- The answer of a report, from rows, answers to whether one segment precedes another, a budget and a number of places.
-- Assumes nothing.
use Rattle.std.specs.Prelude.{◌≡◌, ℕ, ◌-◌, ◌≤◌, Bool, true, false, cond, ◌&&◌, ◌↔◌, List, [], ◌∷◌, ◌++◌, map, length, take, replicate, Ok, Err, Result, ◌==◌, nat_lt}
use mathlib.Core.List.{Memᴰ}
use Rattle.sorted_list.specs.Lists.{Held, opened}
use Rattle.sorted_list.specs.Laws.{Ascending, Once, filled, accepted}
use Rattle.rows.specs.Circles.{IsCircleRow, zero_step, blank_row}
use Rattle.rows.specs.Orders.{rank_row}
use Rattle.rows.specs.declared.edge.Edge.{Edge}
use Rattle.rows.specs.declared.row.CircleRow.{CircleRow}
use Rattle.rows.specs.declared.step.Step.{Step}
use Rattle.recording.specs.Chains.{step, wanted_at_last}
use Rattle.recording.specs.Enumeration.{row_at, IsChainAt, chains}
use Rattle.recording.specs.Sorting.{sorted}

-- The steps of the edges at the places of a chain.
abbrev pub steps_at : List Edge → List ℕ → List Step
steps_at rows ps = map step (map (row_at rows) ps)

-- A chain closes: it has two or more edges, and its last wanted lock is its first held lock.
abbrev pub closed : List Step → Bool
closed [] = false
closed (s ∷ zs) = nat_lt 0 (length zs) && wanted_at_last s.wanted zs == s.held

-- The row of a circle: the number of its steps, and the steps in 64 places, zero behind them.
abbrev pub circle_row : List Step → CircleRow
circle_row c = record { count = length c; steps = take 64 (c ++ replicate 64 zero_step) }

-- The rows of the circles that the closed ones of some chains give, in their turn.
abbrev pub circles_given : List Edge → List (List ℕ) → List CircleRow
circles_given rows [] = []
circles_given rows (ps ∷ more) =
    cond (closed (steps_at rows ps)) (circle_row (steps_at rows ps) ∷ circles_given rows more) (circles_given rows more)

-- The rows of the circles of closed chains, ascending, each once.
abbrev pub circles : List Edge → (ℕ → ℕ → Bool) → List CircleRow
circles rows precedes = sorted rank_row blank_row (circles_given rows (chains rows precedes))

-- What a report without refusal gives: the circles, their number and the number of chains.
pub record Report : Type 0 where
  pub circles : List CircleRow
  pub circle_count : ℕ
  pub chain_count : ℕ

-- Refused by 12 where there are more chains than the budget, and then by 13 where there are more circles than places.
abbrev pub judged : ℕ → List CircleRow → ℕ → ℕ → Result Report ℕ
judged chain_count found budget places =
    cond (nat_lt budget chain_count) (Err 12)
    (cond (nat_lt places (length found)) (Err 13)
    (Ok (record { circles = found; circle_count = length found; chain_count = chain_count })))

-- The answer of a report.
abbrev pub answer : List Edge → (ℕ → ℕ → Bool) → ℕ → ℕ → Result Report ℕ
answer rows precedes budget places = judged (length (chains rows precedes)) (circles rows precedes) budget places

-- What a list with some places holds once the circles of the closed chains were added to it, in their turn.
abbrev pub entered_in : List Edge → (ℕ → ℕ → Bool) → ℕ → Held CircleRow
entered_in rows precedes places = filled rank_row (opened blank_row places) (circles_given rows (chains rows precedes))

-- None of them is refused a place there.
abbrev pub AllEntered : List Edge → (ℕ → ℕ → Bool) → ℕ → Type 0
AllEntered rows precedes places =
    let given = circles_given rows (chains rows precedes) in
    accepted rank_row (opened blank_row places) given ≡ given

-- ---- the law

-- A closed chain over the rows gives the circle that the row has.
pub record GivenBy (rows : List Edge) (precedes : ℕ → ℕ → Bool) (r : CircleRow) : Type 0 where
  pub places : List ℕ
  pub chain : IsChainAt rows precedes places
  pub closes : closed (steps_at rows places) ≡ true
  pub gives : r ≡ circle_row (steps_at rows places)

-- The circles of a report are exactly those that closed chains give, each a circle of two or more steps; they ascend, and none
-- stands twice.
pub record Reports (rows : List Edge) (precedes : ℕ → ℕ → Bool) : Type 0 where
  pub members : (r : CircleRow) → Memᴰ r (circles rows precedes) ↔ GivenBy rows precedes r
  pub each : (r : CircleRow) → Memᴰ r (circles rows precedes) → IsCircleRow r × (2 ≤ r.count)
  pub ascends : Ascending rank_row (circles rows precedes)
  pub once : Once (circles rows precedes)
  -- a list to which they are added one by one refuses none exactly where there are places for all, and then holds them
  pub refuses : (places : ℕ) → AllEntered rows precedes places ↔ (length (circles rows precedes) ≤ places)
  pub holds : (places : ℕ) → length (circles rows precedes) ≤ places → entered_in rows precedes places
      ≡ record { records = circles rows precedes; free = replicate (places - length (circles rows precedes)) blank_row }

abbrev pub ReportsAreLawful : Type 0
ReportsAreLawful = (rows : List Edge) (precedes : ℕ → ℕ → Bool) → Reports rows precedes
