-- What a report says of the recording behind the edge list and the order that it read.
-- Assumes nothing.
use Rattle.std.specs.Prelude.{◌≡◌, ℕ, ◌≤◌, Bool, true, ◌↔◌, List, [], length, Ok, Result}
use mathlib.Core.List.{Memᴰ}
use Rattle.sorted_list.specs.Lists.{Held}
use Rattle.order.specs.Meaning.{Meaning}
use Rattle.rows.specs.Circles.{IsCircle}
use Rattle.rows.specs.declared.edge.Edge.{Edge}
use Rattle.rows.specs.declared.row.CircleRow.{CircleRow}
use Rattle.rows.specs.declared.step.Step.{Step}
use Rattle.recording.specs.Recording.{Recording, SameThreads}
use Rattle.recording.specs.Halts.{CanStop}
use Rattle.recording.specs.Answers.{circle_row}
use Rattle.recording.specs.Replies.{reply, reported}
use Rattle.recording.specs.declared.answer.Answer.{Answer}
use Rattle.recording.specs.declared.cause.SearchCause.{SearchCause}
use Rattle.rules.specs.Behind.{Behind}
use Rattle.rules.specs.Rows.{ThreadRow}
use Rattle.rules.specs.States.{state}

-- The recording stands behind the edge list and the order, with the rows of some ledger.
abbrev pub BehindBoth : Recording → Held Edge → Meaning → Type 0
BehindBoth ρ edges order = (rows : List ThreadRow) × Behind ρ (state rows edges order)

-- The circles are exactly those in which the recording can stop.
pub record ListsStops (ρ : Recording) (found : List CircleRow) : Type 0 where
  -- a circle stands in the list exactly when some halt of the recording shows it
  pub shown : (c : List Step) → IsCircle c → 2 ≤ length c → Memᴰ (circle_row c) found ↔ CanStop ρ c
  -- the list has nothing but circles of two or more steps
  pub only : (r : CircleRow) → Memᴰ r found → (c : List Step) × IsCircle c × (2 ≤ length c) × (r ≡ circle_row c)
  -- it is empty exactly when no halt shows any circle
  pub empty : (found ≡ []) ↔ ((c : List Step) → IsCircle c → 2 ≤ length c → CanStop ρ c → ⊥)

-- Two recordings can stop in the same circles.
abbrev pub StopAlike : Recording → Recording → Type 0
StopAlike ρ σ = (c : List Step) → IsCircle c → 2 ≤ length c → CanStop ρ c ↔ CanStop σ c

-- A report without refusal lists the stops of every recording that stands behind what it read.
abbrev pub Promised : Held Edge → Meaning → Result Answer SearchCause → List CircleRow → Type 0
Promised edges order r found = (ρ : Recording) → BehindBoth ρ edges order → (a : Answer) → r ≡ Ok a → ListsStops ρ found

-- ---- two reports

-- The answer and the list of a report with a budget and n places.
pub record IsReport (edges : Held Edge) (order : Meaning) (budget n : ℕ) (r : Result Answer SearchCause) (h : Held CircleRow) : Type 0 where
  pub answers : r ≡ reply edges.records order.before budget n
  pub holds : h ≡ reported edges.records order.before budget n

-- Neither is refused.
abbrev pub BothAnswered : Result Answer SearchCause → Result Answer SearchCause → Type 0
BothAnswered r s = ((a : Answer) × (r ≡ Ok a)) × ((b : Answer) × (s ≡ Ok b))

-- The reports list the same circles exactly when the recordings can stop in the same circles.
abbrev pub TellsStops : Held Edge → Meaning → Held Edge → Meaning → Result Answer SearchCause → Result Answer SearchCause → Bool → Type 0
TellsStops edges order others other r s same =
    (ρ σ : Recording) → BehindBoth ρ edges order → BehindBoth σ others other
    → (a b : Answer) → r ≡ Ok a → s ≡ Ok b → (same ≡ true) ↔ StopAlike ρ σ

-- Where in the two recordings each thread does the same in the same order, reports into equally many places have equal answers, or
-- the same refusal, and leave equal lists.
abbrev pub SameWork : Held Edge → Meaning → Held Edge → Meaning → ℕ → ℕ → Result Answer SearchCause → Result Answer SearchCause
    → Held CircleRow → Held CircleRow → Type 0
SameWork edges order others other n k r s h j =
    (ρ σ : Recording) → BehindBoth ρ edges order → BehindBoth σ others other → SameThreads ρ σ → n ≡ k → (r ≡ s) × (h ≡ j)
