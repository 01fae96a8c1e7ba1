-- The counterpart of an event in a recording with the same threads.
-- Assumes nothing.
use Rattle.std.proofs.Common.{◌≡◌, ℕ, Bool, true, false, cond, eqb, ◌⊎◌, List, [], ◌∷◌, sym, refl, ap, subst, inl, inr}
use Rattle.std.proofs.lemmas.Bool.{eq-eqb, ne_eqb}
use Rattle.rows.specs.declared.event.Event.{Event}
use Rattle.recording.specs.Recording.{Recording, none, ◌▸◌, actor, thread_events, SameThreads}
use Rattle.recording.proofs.Prefixes.{◌⊑◌, now, later}

-- An event is the latest of its thread's list, and leaves the other lists.
pub acts : (ρ : Recording) (e : Event) (t : ℕ) → actor e ≡ t → thread_events t (ρ ▸ e) ≡ e ∷ thread_events t ρ
acts ρ e t own = rw (eq-eqb (actor e) t own)

pub rests : (ρ : Recording) (e : Event) (t : ℕ) → (actor e ≡ t → ⊥) → thread_events t (ρ ▸ e) ≡ thread_events t ρ
rests ρ e t apart = rw (ne_eqb (actor e) t apart)

-- Somewhere in the list e stands on top of h.
abbrev Has : Event → List Event → List Event → Type 0
Has e h [] = ⊥
Has e h (a ∷ l) = ((a ≡ e) × (l ≡ h)) ⊎ Has e h l

has_more : (b : Bool) (e a : Event) (h l : List Event) → Has e h l → Has e h (cond b (a ∷ l) l)
has_more true e a h l m = inr m
has_more false e a h l m = m

has_grows : {π ρ : Recording} (t : ℕ) (e : Event) (h : List Event) → π ⊑ ρ → Has e h (thread_events t π) → Has e h (thread_events t ρ)
has_grows t e h (now p) m = subst (λ r. Has e h (thread_events t r)) p m
has_grows t e h (later {ρ} {e = a} p) m = has_more (eqb (actor a) t) e a h (thread_events t ρ) (has_grows t e h p m)

-- After some prefix with the list h for thread t comes e.
abbrev Came : Recording → ℕ → Event → List Event → Type 0
Came σ t e h = (π : Recording) × ((π ▸ e) ⊑ σ) × (thread_events t π ≡ h)

came_more : (σ : Recording) (t : ℕ) (a e : Event) (h : List Event) → Came σ t e h → Came (σ ▸ a) t e h
came_more σ t a e h c = (c.0, later c.1, c.2)

came_here : (σ : Recording) (t : ℕ) (a e : Event) (h : List Event) → a ≡ e → thread_events t σ ≡ h → Came (σ ▸ a) t e h
came_here σ t a e h p q = (σ, now (ap (λ x. σ ▸ x) (sym p)), q)

has_came : (σ : Recording) (t : ℕ) (e : Event) (h : List Event) → Has e h (thread_events t σ) → Came σ t e h
has_came none t e h m = absurd m
has_came (σ ▸ a) t e h m = go (eqb (actor a) t) m (has_came σ t e h)
  where
    go : (b : Bool) → Has e h (cond b (a ∷ thread_events t σ) (thread_events t σ))
        → (Has e h (thread_events t σ) → Came σ t e h) → Came (σ ▸ a) t e h
    go true (inl m) below = came_here σ t a e h m.0 m.1
    go true (inr m) below = came_more σ t a e h (below m)
    go false m below = came_more σ t a e h (below m)

-- An event of ρ comes in σ too, after the same events of its own thread.
pub record Twin (σ π : Recording) (e : Event) : Type 0 where
  pub before : Recording
  pub prefix : (before ▸ e) ⊑ σ
  pub alike : thread_events (actor e) before ≡ thread_events (actor e) π

pub twin : {π ρ : Recording} {e : Event} (σ : Recording) → SameThreads ρ σ → (π ▸ e) ⊑ ρ → Twin σ π e
twin {π} {ρ} {e} σ same p =
    let t : ℕ = actor e in
    let h : List Event = thread_events t π in
    let m : Has e h (thread_events t (π ▸ e)) = rw (acts π e t refl) (inl (refl, refl)) in
    let (κ, q, alike) = has_came σ t e h (rw (same t) at (has_grows t e h p m)) in
    record { before = κ; prefix = q; alike = alike }
