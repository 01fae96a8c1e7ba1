-- What holds of every recording that stands behind a state.
-- Assumes nothing.
use Rattle.std.specs.Prelude.{◌≡◌, ℕ, ◌+◌, ◌≤◌, ◌↔◌, List, length, Ok, Err, ◌≢◌}
use Rattle.order.specs.declared.cause.OrderCause.TheVariants.{End}
use Rattle.rows.specs.declared.event.Event.{Event}
use Rattle.rows.specs.declared.event.Event.TheVariants.{Lock, Release, Start, Join}
use Rattle.recording.specs.Recording.{Recording, none, ◌▸◌}
use Rattle.recording.specs.Ledger.{Allowed, Accepted}
use Rattle.recording.specs.Segments.{next}
use Rattle.recording.specs.EdgeList.{holds_now, edge_list}
use Rattle.rules.specs.declared.cause.EventCause.TheVariants.{Order}
use Rattle.rules.specs.Rows.{has}
use Rattle.rules.specs.States.{State, fresh_state, answer, after, recorded, after_all, recorded_all}
use Rattle.rules.specs.Behind.{Behind, locks_after}

-- The locks of a row are those that the thread took more often than it gave them up.
abbrev pub LocksAreHeld : Type 0
LocksAreHeld = (ρ : Recording) → Accepted ρ → (v l : ℕ) → has (locks_after ρ v) l ≡ holds_now ρ v l

-- The empty recording stands behind fresh ones.
abbrev pub NothingBehindFresh : Type 0
NothingBehindFresh = (places : ℕ) → Behind none (fresh_state places)

-- An accepted event comes to the end of the recording, and a refused one leaves it.
abbrev pub EventsAreRecorded : Type 0
EventsAreRecorded =
    (limit : ℕ) (ρ : Recording) (s : State) → Behind ρ s → (e : Event) → Behind (recorded limit s ρ e) (after limit s e)

-- So it is with every list of events, whichever are refused.
abbrev pub ListsAreRecorded : Type 0
ListsAreRecorded =
    (limit : ℕ) (ρ : Recording) (s : State) → Behind ρ s → (es : List Event)
    → Behind (recorded_all limit s ρ es) (after_all limit s es)

-- The order never says that a segment is no open end.
abbrev pub EndsAreOpen : Type 0
EndsAreOpen =
    (limit : ℕ) (ρ : Recording) (s : State) → Behind ρ s → (e : Event) → answer limit s e ≢ Err (Order End)

-- There are places for the edges of the recording with a lock event at its end, and numbers below the ceiling for the
-- segments of one with a start or a join at its end.
abbrev pub Room : ℕ → ℕ → Recording → Event → Type 0
Room limit places ρ (Lock t o) = length (edge_list (ρ ▸ Lock t o)) ≤ places
Room limit places ρ (Release t o) = Unit {0}
Room limit places ρ (Start t u) = next (ρ ▸ Start t u) ≤ limit
Room limit places ρ (Join t u) = next (ρ ▸ Join t u) ≤ limit

-- An event is accepted exactly when it is allowed after the recording and there is room.
abbrev pub AllowedAreAccepted : Type 0
AllowedAreAccepted =
    (limit : ℕ) (ρ : Recording) (s : State) → Behind ρ s → (e : Event)
    → (answer limit s e ≡ Ok tt) ↔ (Allowed ρ e × Room limit (length s.edges.records + length s.edges.free) ρ e)
