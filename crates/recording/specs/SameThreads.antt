-- The second law: recordings in which each thread does the same in the same order have the same edges and the same order of
-- segments, up to the numbers of the segments.
-- Assumes nothing.
use Rattle.std.specs.Prelude.{◌≡◌, ℕ, ◌<◌, ◌⊎◌, ◌↔◌, ◌≢◌}
use Rattle.rows.specs.declared.edge.Edge.{Edge}
use Rattle.recording.specs.Recording.{Recording, none, ◌▸◌, SameThreads}
use Rattle.recording.specs.Ledger.{unborn, life, Accepted}
use Rattle.recording.specs.Edges.{Drawn}
use Rattle.recording.specs.Segments.{next, segment, Precedes}

-- An edge with another segment number.
abbrev pub in_segment : ℕ → Edge → Edge
in_segment s e = record { thread = e.thread; held = e.held; wanted = e.wanted; guards = e.guards; segment = s }

-- Thread t is, or once was, in segment x.
abbrev pub WasIn : Recording → ℕ → ℕ → Type 0
WasIn none t x = (t ≡ 0) × (x ≡ 0)
WasIn (ρ ▸ a) t x = WasIn ρ t x ⊎ ((life (ρ ▸ a) t ≢ unborn) × (x ≡ segment (ρ ▸ a) t))

-- r numbers the segments of ρ as σ does: it takes the edges of ρ to edges of σ, ascends along each thread, and keeps which
-- segment precedes which.
pub record Renumbers (ρ σ : Recording) (r : ℕ → ℕ) : Type 0 where
  pub inside : (x : ℕ) → x < next ρ → r x < next σ
  pub edges : (e : Edge) → Drawn ρ e → Drawn σ (in_segment (r e.segment) e)
  pub ascends : (t x y : ℕ) → WasIn ρ t x → WasIn ρ t y → x < y → r x < r y
  pub order : (x y : ℕ) → x < next ρ → y < next ρ → Precedes ρ x y ↔ Precedes σ (r x) (r y)

-- r and b number the segments of each recording as the other does, and undo each other.
abbrev pub SameThreadsRenumber : Type 0
SameThreadsRenumber =
    (ρ σ : Recording) → Accepted ρ → Accepted σ → SameThreads ρ σ
    → (r : ℕ → ℕ) × (b : ℕ → ℕ) × Renumbers ρ σ r × Renumbers σ ρ b
    × ((x : ℕ) → x < next ρ → b (r x) ≡ x) × ((x : ℕ) → x < next σ → r (b x) ≡ x)
