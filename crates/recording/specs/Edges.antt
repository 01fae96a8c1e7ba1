-- The edges that the lock events of a recording draw.
-- Assumes nothing.
use Rattle.std.specs.Prelude.{◌≡◌, ℕ, ◌^◌, ◌<◌, ◌⊎◌, ◌↔◌}
use Rattle.rows.specs.Edges.{In}
use Rattle.rows.specs.declared.edge.Edge.{Edge}
use Rattle.rows.specs.declared.event.Event.{Event}
use Rattle.rows.specs.declared.event.Event.TheVariants.{Lock, Release, Start, Join}
use Rattle.recording.specs.Recording.{Recording, none, ◌▸◌, size}
use Rattle.recording.specs.Ledger.{HoldsNow}
use Rattle.recording.specs.Segments.{segment}

-- The number g is the set of the locks that thread t holds after ρ: lock i is bit i.
abbrev pub Guards : Recording → ℕ → ℕ → Type 0
Guards ρ t g = (g < 2 ^ 64) × ((l : ℕ) → In l g ↔ HoldsNow ρ t l)

-- The event, coming after ρ, draws the edge: a lock event draws one for each lock that its thread holds, with all the held
-- locks as guards and the thread's present segment.
abbrev pub Draws : Recording → Event → Edge → Type 0
Draws ρ (Lock t o) e =
    (e.thread ≡ t) × (e.wanted ≡ o) × HoldsNow ρ t e.held × Guards ρ t e.guards × (e.segment ≡ segment ρ t)
Draws ρ (Release t o) e = ⊥
Draws ρ (Start t u) e = ⊥
Draws ρ (Join t u) e = ⊥

-- The event at place p drew the edge.
abbrev pub DrawnAt : Recording → ℕ → Edge → Type 0
DrawnAt none p e = ⊥
DrawnAt (ρ ▸ a) p e = ((p ≡ size ρ) × Draws ρ a e) ⊎ DrawnAt ρ p e

-- Some event of the recording drew the edge.
abbrev pub Drawn : Recording → Edge → Type 0
Drawn ρ e = (p : ℕ) × DrawnAt ρ p e

-- An event at one of the places of W drew the edge.
abbrev pub DrawnIn : Recording → (ℕ → Type 0) → Edge → Type 0
DrawnIn ρ W e = (p : ℕ) × W p × DrawnAt ρ p e
