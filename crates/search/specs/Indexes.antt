-- Where the edges that hold a lock stand, by blocks of places.
-- Assumes nothing.
use Rattle.std.specs.Prelude.{◌≡◌, ℕ, zero, suc, ◌+◌, ◌/◌, ◌<◌, Bool, false, ◌&&◌, ◌||◌, List, length, ◌==◌, slice_index}
use Rattle.rows.specs.Edges.{is_edge, in_set}
use Rattle.rows.specs.declared.edge.Edge.{Edge}
use Rattle.recording.specs.Enumeration.{row_at}
use Rattle.search.specs.declared.index.Index.{Index}

-- The row is an edge that holds the lock.
abbrev pub holding : ℕ → Edge → Bool
holding lock e = lock == e.held && is_edge e

-- Block b of the lock is marked.
abbrev pub mark : Index → ℕ → ℕ → Bool
mark index lock b = in_set b (slice_index index.blocks lock)

-- One of the first n rows holds the lock and stands in block b, where a block has so many places.
abbrev pub held_in : List Edge → ℕ → ℕ → ℕ → ℕ → Bool
held_in rows size lock b zero = false
held_in rows size lock b (suc n) = (holding lock (row_at rows n) && b == n / size) || held_in rows size lock b n

-- The marks are those of the rows.
pub record Indexes (rows : List Edge) (index : Index) : Type 0 where
  pub size : index.size ≡ length rows / 64 + 1
  pub marks : (lock b : ℕ) → lock < 64 → b < 64 → mark index lock b ≡ held_in rows index.size lock b (length rows)
