-- What an event's answer says of every recording that stands behind a state.
-- Assumes nothing.
use Rattle.std.specs.Prelude.{◌≡◌, ℕ, ◌+◌, ◌↔◌, length, Ok, Err, ◌≢◌}
use Rattle.order.specs.declared.cause.OrderCause.TheVariants.{End}
use Rattle.rows.specs.declared.event.Event.{Event}
use Rattle.recording.specs.Recording.{Recording, ◌▸◌}
use Rattle.recording.specs.Ledger.{Allowed}
use Rattle.rules.specs.declared.cause.EventCause.TheVariants.{Order}
use Rattle.rules.specs.Behind.{Behind}
use Rattle.rules.specs.Calls.{Answer, unless_refused}
use Rattle.rules.specs.Laws.{Room}
use Rattle.rules.specs.States.{State}

-- A recording that stood behind stands behind what is there now, with the event at its end if that was accepted.
abbrev pub Records : Event → Answer → State → State → Type 0
Records e r before later = (ρ : Recording) → Behind ρ before → Behind (unless_refused r (ρ ▸ e) ρ) later

-- The event is accepted exactly when it is allowed after the recording and there is room.
abbrev pub Accepts : ℕ → Event → Answer → State → Type 0
Accepts limit e r s =
    (ρ : Recording) → Behind ρ s
    → (r ≡ Ok tt) ↔ (Allowed ρ e × Room limit (length s.edges.records + length s.edges.free) ρ e)

-- The answer is never that a segment is no open end.
abbrev pub FindsEnds : Answer → State → Type 0
FindsEnds r s = (ρ : Recording) → Behind ρ s → r ≢ Err (Order End)
