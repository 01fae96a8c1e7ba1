-- The ascending list of the edges that a recording drew.
-- Assumes nothing.
use Rattle.std.specs.Prelude.{ℕ, zero, suc, ◌+◌, ◌*◌, Bool, true, cond, ◌↔◌, List, [], ◌∷◌, ◌++◌, map, nat_lt}
use mathlib.Core.List.{Memᴰ}
use Rattle.sorted_list.specs.Laws.{Ascending, Once}
use Rattle.rows.specs.Edges.{IsEdge, blank_edge}
use Rattle.rows.specs.Orders.{rank_edge}
use Rattle.rows.specs.declared.edge.Edge.{Edge}
use Rattle.rows.specs.declared.event.Event.{Event}
use Rattle.rows.specs.declared.event.Event.TheVariants.{Lock, Release, Start, Join}
use Rattle.recording.specs.Recording.{Recording, none, ◌▸◌}
use Rattle.recording.specs.Halts.{takes, frees, count}
use Rattle.recording.specs.Ledger.{Accepted}
use Rattle.recording.specs.Segments.{segment}
use Rattle.recording.specs.Edges.{Drawn}
use Rattle.recording.specs.Sorting.{sorted}

-- Whether thread t holds lock l when the whole recording has happened.
abbrev pub holds_now : Recording → ℕ → ℕ → Bool
holds_now ρ t l = nat_lt (count (frees t l) (λ p. true) ρ) (count (takes t l) (λ p. true) ρ)

-- The numbers below n that pass a test.
abbrev pub passing : (ℕ → Bool) → ℕ → List ℕ
passing test zero = []
passing test (suc n) = cond (test n) (n ∷ passing test n) (passing test n)

-- The set of the numbers below n that pass a test, as a number in which i is bit i.
abbrev pub gather : (ℕ → Bool) → ℕ → ℕ
gather test zero = 0
gather test (suc n) = cond (test 0) 1 0 + 2 * gather (λ i. test (suc i)) n

-- The edge of thread t that holds h, among all that it holds after ρ, and takes o.
abbrev pub edge_drawn : Recording → ℕ → ℕ → ℕ → Edge
edge_drawn ρ t o h = record { thread = t; held = h; wanted = o; guards = gather (holds_now ρ t) 64; segment = segment ρ t }

-- The edges that the event, coming after ρ, draws.
abbrev pub edges_drawn : Recording → Event → List Edge
edges_drawn ρ (Lock t o) = map (edge_drawn ρ t o) (passing (holds_now ρ t) 64)
edges_drawn ρ (Release t o) = []
edges_drawn ρ (Start t u) = []
edges_drawn ρ (Join t u) = []

-- All the edges that the recording drew, as they were drawn, the latest first.
abbrev pub all_drawn : Recording → List Edge
all_drawn none = []
all_drawn (ρ ▸ a) = edges_drawn ρ a ++ all_drawn ρ

-- The same ascending, each once.
abbrev pub edge_list : Recording → List Edge
edge_list ρ = sorted rank_edge blank_edge (all_drawn ρ)

-- ---- the law

-- The list has exactly the edges that the recording drew, each a row that is an edge; they ascend, and none stands twice.
pub record ListsEdges (ρ : Recording) : Type 0 where
  pub members : (e : Edge) → Memᴰ e (edge_list ρ) ↔ Drawn ρ e
  pub each : (e : Edge) → Memᴰ e (edge_list ρ) → IsEdge e
  pub ascends : Ascending rank_edge (edge_list ρ)
  pub once : Once (edge_list ρ)

abbrev pub EdgesAreListed : Type 0
EdgesAreListed = (ρ : Recording) → Accepted ρ → ListsEdges ρ
