-- The circles of closed chains are those in which the recording can stop.
-- Assumes nothing.
use Rattle.std.proofs.Common.{ℕ, ◌↔◌, List, ◌∷◌}
use Rattle.rows.specs.declared.edge.Edge.{Edge}
use Rattle.rows.specs.declared.step.Step.{Step}
use Rattle.recording.specs.Segments.{Parallel}
use Rattle.recording.specs.Halts.{CanStopIn}
use Rattle.recording.specs.Edges.{Drawn, DrawnIn}
use Rattle.recording.specs.Chains.{Closes}
use Rattle.recording.specs.Stops.{CirclesAreStops, CirclesAreStopsIn}
use Rattle.std.proofs.ByRecursion.{All-weaker}
use Rattle.recording.proofs.Stopping.{stops}
use Rattle.recording.proofs.Circling.{circles}

pub circles_are_stops_in : (W : ℕ → Type 0) → CirclesAreStopsIn W
circles_are_stops_in W ρ acc c h two = (stops ρ acc W c, circles ρ acc W c h two)

abbrev Anywhere : ℕ → Type 0
Anywhere p = Unit {0}

-- More edges have the closed chains of fewer.
closes_map : (P Q : Edge → Type 0) (R : ℕ → ℕ → Type 0) (c : List Step) → ((e : Edge) → P e → Q e) → Closes P R c → Closes Q R c
closes_map P Q R c f k =
    record {
      first = k.first;
      rest = k.rest;
      drawn = All-weaker P Q f (k.first ∷ k.rest) k.drawn;
      chain = k.chain;
      closed = k.closed;
      gives = k.gives;
    }

pub circles_are_stops : CirclesAreStops
circles_are_stops ρ acc c h two = (
  λ k. let w = both.0 (closes_map (Drawn ρ) (DrawnIn ρ Anywhere) (Parallel ρ) c (λ e d. (d.0, tt, d.1)) k) in
      (w.0, w.1, w.2),
  λ k. closes_map (DrawnIn ρ Anywhere) (Drawn ρ) (Parallel ρ) c (λ e d. (d.0, d.2))
      (both.1 (k.0, k.1, k.2, λ s m. tt)),
)
  where
    both : Closes (DrawnIn ρ Anywhere) (Parallel ρ) c ↔ CanStopIn ρ Anywhere c
    both = circles_are_stops_in Anywhere ρ acc c h two
