-- What the two laws say of reports over the edge list of a recording.
-- Assumes nothing.
use Rattle.std.specs.Prelude.{◌≡◌, ℕ, ◌<◌, ◌≤◌, Bool, ◌↔◌, List, length, Decides}
use mathlib.Core.List.{Memᴰ}
use Rattle.rows.specs.Circles.{IsCircle}
use Rattle.rows.specs.declared.row.CircleRow.{CircleRow}
use Rattle.rows.specs.declared.step.Step.{Step}
use Rattle.recording.specs.Recording.{Recording, SameThreads}
use Rattle.recording.specs.Halts.{CanStop}
use Rattle.recording.specs.Ledger.{Accepted}
use Rattle.recording.specs.Segments.{Precedes, Parallel}
use Rattle.recording.specs.EdgeList.{edge_list}
use Rattle.recording.specs.Enumeration.{row_at, chains}
use Rattle.recording.specs.Answers.{circle_row, circles, answer}
use Rattle.recording.specs.Replies.{reply}
use Rattle.recording.specs.SameThreads.{in_segment}

-- The function answers whether one segment of the recording precedes another.
abbrev pub Tells : (ℕ → ℕ → Bool) → Recording → Type 0
Tells precedes ρ = (x y : ℕ) → Decides (precedes x y) (Precedes ρ x y)

-- The circles of a report over an accepted recording are those of two or more steps in which it can stop.
abbrev pub ReportsAreStops : Type 0
ReportsAreStops =
    (ρ : Recording) → Accepted ρ → (precedes : ℕ → ℕ → Bool) → Tells precedes ρ → (r : CircleRow)
    → Memᴰ r (circles (edge_list ρ) precedes)
    ↔ ((c : List Step) × IsCircle c × (2 ≤ length c) × CanStop ρ c × (r ≡ circle_row c))

-- Two reports have the same circles exactly when the recordings can stop in the same circles.
abbrev pub ReportsTellStops : Type 0
ReportsTellStops =
    (ρ σ : Recording) → Accepted ρ → Accepted σ → (first second : ℕ → ℕ → Bool) → Tells first ρ → Tells second σ
    → (circles (edge_list ρ) first ≡ circles (edge_list σ) second)
    ↔ ((c : List Step) → IsCircle c → 2 ≤ length c → CanStop ρ c ↔ CanStop σ c)

-- The segment of the edge at a place of a recording's list.
abbrev pub segment_at : Recording → ℕ → ℕ
segment_at ρ p = (row_at (edge_list ρ) p).segment

-- The edge lists are equally long and agree place by place but for the segments, and of every two places the segments are
-- parallel in both or in neither.
pub record ListsAgree (ρ σ : Recording) : Type 0 where
  pub sizes : length (edge_list ρ) ≡ length (edge_list σ)
  pub rows : (p : ℕ) → p < length (edge_list ρ) → row_at (edge_list σ) p ≡ in_segment (segment_at σ p) (row_at (edge_list ρ) p)
  pub parallel : (p q : ℕ) → p < length (edge_list ρ) → q < length (edge_list ρ)
      → Parallel ρ (segment_at ρ p) (segment_at ρ q) ↔ Parallel σ (segment_at σ p) (segment_at σ q)

abbrev pub SameThreadsList : Type 0
SameThreadsList = (ρ σ : Recording) → Accepted ρ → Accepted σ → SameThreads ρ σ → ListsAgree ρ σ

-- The chains stand at the same places, so they are equally many, and closed chains give the same circles: reports with equal
-- budgets and equally many places give equal answers.
pub record ReportsAgree (ρ σ : Recording) (first second : ℕ → ℕ → Bool) : Type 0 where
  pub same_chains : chains (edge_list ρ) first ≡ chains (edge_list σ) second
  pub same_circles : circles (edge_list ρ) first ≡ circles (edge_list σ) second
  pub same_answers : (budget places : ℕ) → answer (edge_list ρ) first budget places ≡ answer (edge_list σ) second budget places

abbrev pub SameThreadsReport : Type 0
SameThreadsReport =
    (ρ σ : Recording) → Accepted ρ → Accepted σ → SameThreads ρ σ
    → (first second : ℕ → ℕ → Bool) → Tells first ρ → Tells second σ → ReportsAgree ρ σ first second

-- Reports with equal budgets and equally many places get the same reply.
abbrev pub SameThreadsReply : Type 0
SameThreadsReply =
    (ρ σ : Recording) → Accepted ρ → Accepted σ → SameThreads ρ σ
    → (first second : ℕ → ℕ → Bool) → Tells first ρ → Tells second σ
    → (budget places : ℕ) → reply (edge_list ρ) first budget places ≡ reply (edge_list σ) second budget places
