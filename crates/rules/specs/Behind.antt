-- The recording behind a ledger, an edge list and an order.
-- Assumes nothing.
use Rattle.std.specs.Prelude.{◌≡◌, ℕ, ◌≤◌, cond, List, [], length, Decides, ◌==◌, ◌≢◌}
use Rattle.sorted_list.specs.Laws.{Blank}
use Rattle.rows.specs.Edges.{blank_edge}
use Rattle.rows.specs.declared.event.Event.TheVariants.{Lock, Release, Start, Join}
use Rattle.recording.specs.Recording.{Recording, none, ◌▸◌}
use Rattle.recording.specs.Ledger.{unborn, life, Accepted}
use Rattle.recording.specs.Segments.{next, segment}
use Rattle.recording.specs.EdgeList.{edge_list}
use Rattle.recording.specs.Reports.{Tells}
use Rattle.rules.specs.Rows.{ThreadRow, row_at, taken, given_up}
use Rattle.rules.specs.States.{State}

-- The locks that thread v holds after a recording, in the order in which it took them.
abbrev pub locks_after : Recording → ℕ → List ℕ
locks_after none v = []
locks_after (ρ ▸ Lock t o) v = cond (v == t) (taken o (locks_after ρ v)) (locks_after ρ v)
locks_after (ρ ▸ Release t o) v = cond (v == t) (given_up o (locks_after ρ v)) (locks_after ρ v)
locks_after (ρ ▸ Start t u) v = locks_after ρ v
locks_after (ρ ▸ Join t u) v = locks_after ρ v

-- The row of thread v after a recording.
abbrev pub row_after : Recording → ℕ → ThreadRow
row_after ρ v = record { state = life ρ v; segment = segment ρ v; locks = locks_after ρ v }

-- Some thread that was started is in the segment, though it may have ended.
abbrev pub Occupied : Recording → ℕ → Type 0
Occupied ρ x = (v : ℕ) × (life ρ v ≢ unborn) × (segment ρ v ≡ x)

-- The recording ρ stands behind the three: each of its events was allowed when it came; the 64 rows are those after ρ; the list
-- holds exactly the edges that ρ drew, ascending, and blanks behind them; the order has the segments of ρ, one precedes another
-- exactly when a path of ρ's arrows leads from it to the other, and the segments that threads are in are the open ends.
pub record Behind (ρ : Recording) (s : State) : Type 0 where
  pub accepted : Accepted ρ
  pub size : length s.rows ≡ 64
  pub rows : (v : ℕ) → v ≤ 63 → row_at s.rows v ≡ row_after ρ v
  pub edges : s.edges.records ≡ edge_list ρ
  pub blanks : Blank blank_edge s.edges.free
  pub segments : s.order.segments ≡ next ρ
  pub tells : Tells s.order.before ρ
  pub ends : (x : ℕ) → Decides (s.order.ends x) (Occupied ρ x)
