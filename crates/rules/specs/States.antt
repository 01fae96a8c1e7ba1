-- A ledger's rows with an edge list and an order, and what events make of the three.
-- Assumes nothing.
use Rattle.std.specs.Prelude.{ℕ, List, [], ◌∷◌}
use Rattle.sorted_list.specs.Lists.{Held, opened}
use Rattle.order.specs.Meaning.{Meaning, fresh_order}
use Rattle.rows.specs.Edges.{blank_edge}
use Rattle.rows.specs.declared.edge.Edge.{Edge}
use Rattle.rows.specs.declared.event.Event.{Event}
use Rattle.rows.specs.declared.event.Event.TheVariants.{Lock, Release, Start, Join}
use Rattle.recording.specs.Recording.{Recording, ◌▸◌}
use Rattle.rules.specs.Rows.{ThreadRow, fresh_rows}
use Rattle.rules.specs.Calls.{
  Answer,
  unless_refused,
  lock_answer,
  lock_rows,
  lock_edges,
  release_answer,
  release_rows,
  start_answer,
  start_rows,
  start_order,
  join_answer,
  join_rows,
  join_order,
}

pub record State : Type 0 where
  pub rows : List ThreadRow
  pub edges : Held Edge
  pub order : Meaning

abbrev pub state : List ThreadRow → Held Edge → Meaning → State
state rows edges order = record { rows = rows; edges = edges; order = order }

-- A fresh ledger, with a newly opened list of some places and a fresh order.
abbrev pub fresh_state : ℕ → State
fresh_state places = state fresh_rows (opened blank_edge places) fresh_order

-- ---- one event, where the limit is the order's ceiling

abbrev pub answer : ℕ → State → Event → Answer
answer limit s (Lock t o) = lock_answer s.rows s.edges t o
answer limit s (Release t o) = release_answer s.rows t o
answer limit s (Start t u) = start_answer limit s.rows s.order t u
answer limit s (Join t u) = join_answer limit s.rows s.order t u

abbrev pub after : ℕ → State → Event → State
after limit s (Lock t o) = state (lock_rows s.rows s.edges t o) (lock_edges s.rows s.edges t o) s.order
after limit s (Release t o) = state (release_rows s.rows t o) s.edges s.order
after limit s (Start t u) =
    state (start_rows limit s.rows s.order t u) s.edges (start_order limit s.rows s.order t u)
after limit s (Join t u) =
    state (join_rows limit s.rows s.order t u) s.edges (join_order limit s.rows s.order t u)

-- The recording, and at its end the event if it is accepted.
abbrev pub recorded : ℕ → State → Recording → Event → Recording
recorded limit s ρ e = unless_refused (answer limit s e) (ρ ▸ e) ρ

-- ---- events one after another, refused ones among them

abbrev pub after_all : ℕ → State → List Event → State
after_all limit s [] = s
after_all limit s (e ∷ es) = after_all limit (after limit s e) es

abbrev pub recorded_all : ℕ → State → Recording → List Event → Recording
recorded_all limit s ρ [] = ρ
recorded_all limit s ρ (e ∷ es) = recorded_all limit (after limit s e) (recorded limit s ρ e) es
