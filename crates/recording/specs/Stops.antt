-- The first law: the circles of closed chains are those in which the recording can stop.
-- Assumes nothing.
use Rattle.std.specs.Prelude.{ℕ, ◌≤◌, Bool, T, ◌↔◌, List, length}
use Rattle.rows.specs.Circles.{IsCircle}
use Rattle.rows.specs.declared.step.Step.{Step}
use Rattle.recording.specs.Recording.{Recording}
use Rattle.recording.specs.Halts.{CanStop, CanStopIn}
use Rattle.recording.specs.Ledger.{Accepted}
use Rattle.recording.specs.Edges.{Drawn, DrawnIn}
use Rattle.recording.specs.Segments.{Parallel}
use Rattle.recording.specs.Chains.{Closes}

-- A circle of two or more steps is given by a closed chain of drawn edges exactly when the recording can stop in it.
abbrev pub CirclesAreStops : Type 0
CirclesAreStops =
    (ρ : Recording) → Accepted ρ → (c : List Step) → IsCircle c → 2 ≤ length c → Closes (Drawn ρ) (Parallel ρ) c ↔ CanStop ρ c

-- The same of the edges drawn, and the threads standing, at some places only.
abbrev pub CirclesAreStopsIn : (ℕ → Type 0) → Type 0
CirclesAreStopsIn W =
    (ρ : Recording) → Accepted ρ → (c : List Step) → IsCircle c → 2 ≤ length c
    → Closes (DrawnIn ρ W) (Parallel ρ) c ↔ CanStopIn ρ W c

abbrev pub CirclesAreStopsOf : Type 0
CirclesAreStopsOf = (kept : ℕ → Bool) → CirclesAreStopsIn (λ p. T (kept p))
