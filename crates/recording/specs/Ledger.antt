-- Which events a ledger accepts after a recording.
-- Assumes nothing.
use Rattle.std.specs.Prelude.{◌≡◌, ℕ, ◌≤◌, true, cond, ◌==◌, ◌≢◌}
use Rattle.rows.specs.declared.event.Event.{Event}
use Rattle.rows.specs.declared.event.Event.TheVariants.{Lock, Release, Start, Join}
use Rattle.recording.specs.Recording.{Recording, none, ◌▸◌}
use Rattle.recording.specs.Halts.{Holds}

-- The state of a thread: not yet started, at work, or ended and waited for.
pub data Life : Type 0 where
  unborn : Life
  live : Life
  joined : Life

-- The state of thread v after a recording. At first thread 0 is live and every other thread is unborn.
abbrev pub life : Recording → ℕ → Life
life none v = cond (v == 0) live unborn
life (ρ ▸ Lock t o) v = life ρ v
life (ρ ▸ Release t o) v = life ρ v
life (ρ ▸ Start t u) v = cond (v == u) live (life ρ v)
life (ρ ▸ Join t u) v = cond (v == u) joined (life ρ v)

-- Thread t holds lock l when the whole recording has happened.
abbrev pub HoldsNow : Recording → ℕ → ℕ → Type 0
HoldsNow ρ t l = Holds ρ (λ p. true) t l

-- The event may come after ρ. Its numbers are at most 63 and its thread is live. A lock that is taken is held by nobody, and
-- one that is given up by the thread itself; a thread that is started is unborn; a thread that is joined is another one,
-- and was started. It may have been joined before, and may hold locks.
abbrev pub Allowed : Recording → Event → Type 0
Allowed ρ (Lock t o) = (t ≤ 63) × (o ≤ 63) × (life ρ t ≡ live) × ((v : ℕ) → HoldsNow ρ v o → ⊥)
Allowed ρ (Release t o) = (t ≤ 63) × (o ≤ 63) × (life ρ t ≡ live) × HoldsNow ρ t o
Allowed ρ (Start t u) = (t ≤ 63) × (u ≤ 63) × (life ρ t ≡ live) × (life ρ u ≡ unborn)
Allowed ρ (Join t u) = (t ≤ 63) × (u ≤ 63) × (life ρ t ≡ live) × (u ≢ t) × (life ρ u ≢ unborn)

-- Each event was allowed when it came.
abbrev pub Accepted : Recording → Type 0
Accepted none = Unit {0}
Accepted (ρ ▸ e) = Accepted ρ × Allowed ρ e
