-- The edges that a lock event draws, and whether a list has places for them.
-- Assumes nothing.
use Rattle.std.specs.Prelude.{ℕ, ◌+◌, Bool, cond, List, [], ◌∷◌, map, length, nat_lt}
use Rattle.sorted_list.specs.Lists.{Held, present}
use Rattle.sorted_list.specs.Laws.{filled}
use Rattle.rows.specs.Orders.{rank_edge}
use Rattle.rows.specs.declared.edge.Edge.{Edge}
use Rattle.recording.specs.EdgeList.{gather}
use Rattle.rules.specs.Rows.{ThreadRow, holds}

-- The edge of thread t that holds h, among all the locks of its row, and takes o: the guards are all that it holds, and the
-- segment is the present one.
abbrev pub edge_from : ThreadRow → ℕ → ℕ → ℕ → Edge
edge_from r t o h = record { thread = t; held = h; wanted = o; guards = gather (holds r) 64; segment = r.segment }

-- One edge for each held lock.
abbrev pub edges_from : ThreadRow → ℕ → ℕ → List Edge
edges_from r t o = map (edge_from r t o) r.locks

-- How many of the edges the list does not hold.
abbrev pub new_among : List Edge → List Edge → ℕ
new_among records [] = 0
new_among records (e ∷ es) = cond (present rank_edge records e) 0 1 + new_among records es

-- More of them are new than there are free places.
abbrev pub crowded : Held Edge → List Edge → Bool
crowded h es = nat_lt (length h.free) (new_among h.records es)

-- The list with the edges added to it.
abbrev pub drawn_into : Held Edge → List Edge → Held Edge
drawn_into h es = filled rank_edge h es
