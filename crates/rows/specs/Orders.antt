-- How rows are ordered: by their places, the first one that differs deciding, as words in a dictionary.
-- Assumes nothing.
use Rattle.std.specs.Prelude.{ℕ, List, [], ◌∷◌, map}
use Rattle.std.specs.declared.cmp.Ordering.{Ordering}
use Rattle.std.specs.Cmp.Lexicographic.{slice_cmp}
use Rattle.rows.specs.declared.edge.Edge.{Edge}
use Rattle.rows.specs.declared.row.CircleRow.{CircleRow}
use Rattle.rows.specs.declared.step.Step.{Step}
use Rattle.std.specs.Ordering.{nat_cmp}

-- Edges ascend by thread, held lock, wanted lock, guards as a number, and segment.
abbrev pub edge_places : Edge → List ℕ
edge_places e = e.thread ∷ e.held ∷ e.wanted ∷ e.guards ∷ e.segment ∷ []

abbrev pub rank_edge : Edge → Edge → Ordering
rank_edge e f = slice_cmp nat_cmp (edge_places e) (edge_places f)

-- Circle rows ascend by the number of steps, and then by their steps in turn: thread, held lock, wanted lock.
abbrev pub step_places : Step → List ℕ
step_places s = s.thread ∷ s.held ∷ s.wanted ∷ []

abbrev pub rank_step : Step → Step → Ordering
rank_step s z = slice_cmp nat_cmp (step_places s) (step_places z)

abbrev pub row_places : CircleRow → List (List ℕ)
row_places r = (r.count ∷ []) ∷ map step_places r.steps

abbrev pub rank_row : CircleRow → CircleRow → Ordering
rank_row a b = slice_cmp (slice_cmp nat_cmp) (row_places a) (row_places b)
