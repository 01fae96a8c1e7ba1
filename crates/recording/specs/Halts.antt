-- Where the threads of a recording can come to stand, and the circles of waits that are shown there.
-- Assumes nothing.
use Rattle.std.specs.Prelude.{◌≡◌, ℕ, ◌+◌, ◌<◌, Bool, false, cond, ◌&&◌, T, List, Some, ◌==◌, ◌≢◌}
use mathlib.Core.List.{Memᴰ}
use Rattle.rows.specs.declared.event.Event.{Event}
use Rattle.rows.specs.declared.event.Event.TheVariants.{Lock, Release, Start, Join}
use Rattle.rows.specs.declared.step.Step.{Step}
use Rattle.recording.specs.Recording.{Recording, none, ◌▸◌, size, event, actor, Before}

-- A halt: a set of events, by their places, that has with each event all that come before it.
pub record Halt (ρ : Recording) (halted : ℕ → Bool) : Type 0 where
  pub inside : (p : ℕ) → T (halted p) → p < size ρ
  pub closed : (p q : ℕ) → Before ρ p q → T (halted q) → T (halted p)

-- In the event thread t takes lock l.
abbrev pub takes : ℕ → ℕ → Event → Bool
takes t l (Lock v o) = v == t && o == l
takes t l (Release v o) = false
takes t l (Start v u) = false
takes t l (Join v u) = false

-- In the event thread t gives lock l up.
abbrev pub frees : ℕ → ℕ → Event → Bool
frees t l (Lock v o) = false
frees t l (Release v o) = v == t && o == l
frees t l (Start v u) = false
frees t l (Join v u) = false

-- How many of the events at the places of a set pass a test.
abbrev pub count : (Event → Bool) → (ℕ → Bool) → Recording → ℕ
count f halted none = 0
count f halted (ρ ▸ e) = cond (halted (size ρ) && f e) 1 0 + count f halted ρ

-- At a halt thread t holds lock l: by its events in the halt it took l more often than it gave it up.
abbrev pub Holds : Recording → (ℕ → Bool) → ℕ → ℕ → Type 0
Holds ρ halted t l = count (frees t l) halted ρ < count (takes t l) halted ρ

-- At a halt the thread that acts in e stands before e: e is its first event outside the halt.
pub record Stands (ρ : Recording) (halted : ℕ → Bool) (e : Event) : Type 0 where
  pub place : ℕ
  pub is : event ρ place ≡ Some e
  pub outside : halted place ≡ false
  pub earlier : (p : ℕ) (a : Event) → event ρ p ≡ Some a → actor a ≡ actor e → p < place → T (halted p)

-- A halt shows a circle: each of its threads stands before the event in which it takes its wanted lock, and holds its held lock;
-- and no lock is held by two of the threads.
pub record Shows (ρ : Recording) (halted : ℕ → Bool) (c : List Step) : Type 0 where
  pub waits : (s : Step) → Memᴰ s c → Stands ρ halted (Lock s.thread s.wanted) × Holds ρ halted s.thread s.held
  pub apart : (s z : Step) → Memᴰ s c → Memᴰ z c → (s.thread ≢ z.thread)
      → (l : ℕ) → Holds ρ halted s.thread l → Holds ρ halted z.thread l → ⊥

-- The recording can stop in the circle: some halt of it shows the circle.
abbrev pub CanStop : Recording → List Step → Type 0
CanStop ρ c = (halted : ℕ → Bool) × Halt ρ halted × Shows ρ halted c

-- The same, each thread of the circle standing at one of the places of W.
abbrev pub CanStopIn : Recording → (ℕ → Type 0) → List Step → Type 0
CanStopIn ρ W c =
    (halted : ℕ → Bool) × Halt ρ halted × (shows : Shows ρ halted c)
    × ((s : Step) (m : Memᴰ s c) → W (shows.waits s m).0.place)
