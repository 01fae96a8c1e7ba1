-- A recording, and which of its events come before which.
-- Assumes nothing.
use Rattle.std.specs.Prelude.{◌≡◌, ℕ, suc, ◌<◌, cond, List, [], ◌∷◌, Some, None, Option, ◌==◌}
use Rattle.rows.specs.declared.event.Event.{Event}
use Rattle.rows.specs.declared.event.Event.TheVariants.{Lock, Release, Start, Join}

infixl 20 ◌▸◌
-- A recording: the events that a ledger accepted since it was fresh, in their order. ρ ▸ e is ρ and then e.
pub data Recording : Type 0 where
  none : Recording
  ◌▸◌ : Recording → Event → Recording

-- How many events it has.
abbrev pub size : Recording → ℕ
size none = 0
size (ρ ▸ e) = suc (size ρ)

-- The recording with some more events at its end.
abbrev pub followed : Recording → List Event → Recording
followed ρ [] = ρ
followed ρ (e ∷ es) = followed (ρ ▸ e) es

-- The event at a place. Places count from 0, the oldest event. Equal events at two places are two events.
abbrev pub event : Recording → ℕ → Option Event
event none p = None
event (ρ ▸ e) p = cond (p == size ρ) (Some e) (event ρ p)

-- The thread that acts in an event.
abbrev pub actor : Event → ℕ
actor (Lock t o) = t
actor (Release t o) = t
actor (Start t u) = t
actor (Join t u) = t

-- Place p comes before place q: whatever the scheduler does, the event at p happens first. One thread acts at both, and p is
-- earlier; p starts the thread that acts at q; p starts the thread that q joins; at p acts the thread that q joins; or
-- some place lies between the two.
pub data Before (ρ : Recording) : ℕ → ℕ → Type 0 where
  in_thread : {p q : ℕ} {a b : Event} → event ρ p ≡ Some a → event ρ q ≡ Some b → actor a ≡ actor b → p < q → Before ρ p q
  start_acts : {p q t : ℕ} {b : Event} → event ρ p ≡ Some (Start t (actor b)) → event ρ q ≡ Some b → Before ρ p q
  start_join : {p q t v u : ℕ} → event ρ p ≡ Some (Start t u) → event ρ q ≡ Some (Join v u) → Before ρ p q
  acts_join : {p q v : ℕ} {a : Event} → event ρ p ≡ Some a → event ρ q ≡ Some (Join v (actor a)) → Before ρ p q
  over : {p q r : ℕ} → Before ρ p q → Before ρ q r → Before ρ p r

-- The events in which a thread acts, in their order, the latest first.
abbrev pub thread_events : ℕ → Recording → List Event
thread_events t none = []
thread_events t (ρ ▸ e) = cond (actor e == t) (e ∷ thread_events t ρ) (thread_events t ρ)

-- In both recordings each thread does the same in the same order.
abbrev pub SameThreads : Recording → Recording → Type 0
SameThreads ρ σ = (t : ℕ) → thread_events t ρ ≡ thread_events t σ
