-- The edges of a chain, with what the chain has seen.
-- Assumes nothing.
use Rattle.std.specs.Prelude.{◌≡◌, ℕ, ◌^◌, List, [], ◌∷◌, bit_or}
use Rattle.std.specs.Coded.{×_prop, Unit-prop, Coded-set, coded_ℕ}
use Rattle.rows.specs.declared.edge.Edge.{Edge}
use Rattle.search.specs.declared.level.Level.{Level}

-- The edge at place p, behind a chain with these threads and guards.
abbrev pub level_after : ℕ → ℕ → ℕ → Edge → Level
level_after threads guards p e =
    record { place = p; edge = e; threads = bit_or threads (2 ^ e.thread); guards = bit_or guards e.guards }

-- Each level has seen what those before it have, and its own edge. Before the first one these threads and guards were seen.
abbrev pub Seen : ℕ → ℕ → List Level → Type 0
Seen threads guards [] = Unit {0}
Seen threads guards (l ∷ ls) =
    (l.threads ≡ bit_or threads (2 ^ l.edge.thread)) × ((l.guards ≡ bit_or guards l.edge.guards) × Seen l.threads l.guards ls)

pub Seen-prop : (threads guards : ℕ) (ls : List Level) → IsProp (Seen threads guards ls)
Seen-prop threads guards [] = Unit-prop
Seen-prop threads guards (l ∷ ls) =
    ×_prop (Coded-set coded_ℕ _ _) (×_prop (Coded-set coded_ℕ _ _) (Seen-prop l.threads l.guards ls))

-- What is read where no level stands.
abbrev pub blank_level : Level
blank_level =
    record { place = 0; edge = record { thread = 0; held = 0; wanted = 0; guards = 0; segment = 0 }; threads = 0; guards = 0 }
