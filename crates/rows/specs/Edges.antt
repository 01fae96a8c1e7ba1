-- Which rows are edges. Guards are a set of locks, as a number in which lock i is bit i.
-- Assumes nothing.
use Rattle.std.specs.Prelude.{◌≡◌, ℕ, ◌/◌, ◌%◌, ◌^◌, ◌≤◌, Bool, not, ◌&&◌, ◌==◌, nat_le}
use Rattle.rows.specs.declared.edge.Edge.{Edge}

-- The lock is in the set.
abbrev pub In : ℕ → ℕ → Type 0
In lock set = (set / 2 ^ lock) % 2 ≡ 1

abbrev pub in_set : ℕ → ℕ → Bool
in_set lock set = (set / 2 ^ lock) % 2 == 1

-- Its numbers are at most 63, its held lock is among its guards and its wanted lock is not.
pub record IsEdge (e : Edge) : Type 0 where
  pub thread : e.thread ≤ 63
  pub held : e.held ≤ 63
  pub wanted : e.wanted ≤ 63
  pub holds : In e.held e.guards
  pub wants : In e.wanted e.guards → ⊥

-- The same as a test.
abbrev pub in_range : Edge → Bool
in_range e = nat_le e.thread 63 && (nat_le e.held 63 && nat_le e.wanted 63)

abbrev pub is_edge : Edge → Bool
is_edge e = in_range e && (in_set e.held e.guards && not (in_set e.wanted e.guards))

-- The edge that stands in a free place: thread 0 holds lock 0 alone and wants lock 1, in segment 0.
abbrev pub blank_edge : Edge
blank_edge = record { thread = 0; held = 0; wanted = 1; guards = 1; segment = 0 }
