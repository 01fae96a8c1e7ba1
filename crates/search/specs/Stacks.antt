-- A stack of edges, which make a chain.
-- Assumes nothing.
use Rattle.std.specs.Prelude.{◌≡◌, ℕ, ◌-◌, Bool, cond, not, ◌&&◌, List, map, length, ◌==◌, slice_index_or}
use Rattle.rows.specs.declared.edge.Edge.{Edge}
use Rattle.rows.specs.declared.step.Step.{Step}
use Rattle.recording.specs.Chains.{step}
use Rattle.recording.specs.Enumeration.{row_at}
use Rattle.recording.specs.Walks.{ChainOrNone}
use Rattle.search.specs.declared.level.Level.{Level}
use Rattle.search.specs.declared.stack.Stack.{Stack}
use Rattle.search.specs.Levels.{level_after, blank_level}

abbrev pub stacked : Stack → List Level
stacked s = s.levels.items

abbrev pub places : Stack → List ℕ
places s = map (λ l. l.place) (stacked s)

abbrev pub edges : Stack → List Edge
edges s = map (λ l. l.edge) (stacked s)

-- The steps of the chain.
abbrev pub steps : Stack → List Step
steps s = map step (edges s)

-- The first and the last level.
abbrev pub first : Stack → Level
first s = slice_index_or (stacked s) 0 blank_level

abbrev pub top : Stack → Level
top s = slice_index_or (stacked s) (length (stacked s) - 1) blank_level

-- The level for one more edge.
abbrev pub next_level : Stack → ℕ → Edge → Level
next_level s p e =
    cond (length (stacked s) == 0) (level_after 0 0 p e) (level_after (top s).threads (top s).guards p e)

-- The stack holds a chain over the rows, or nothing.
pub record Walks (rows : List Edge) (precedes : ℕ → ℕ → Bool) (s : Stack) : Type 0 where
  pub rows_at : edges s ≡ map (row_at rows) (places s)
  pub chain : ChainOrNone rows precedes (places s)

-- Neither of two segments precedes the other.
abbrev pub unordered : (ℕ → ℕ → Bool) → ℕ → ℕ → Bool
unordered precedes x y = not (precedes x y) && not (precedes y x)
