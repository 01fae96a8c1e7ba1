-- What a thread holds depends on its own events alone.
-- Assumes nothing.
use Rattle.std.proofs.Common.{◌≡◌, ℕ, ◌+◌, Bool, true, false, cond, ◌⊎◌, List, [], ◌∷◌, sym, refl, ap, ◌∙◌, inl, inr, arith}
use Rattle.std.proofs.lemmas.Bool.{ne_eqb, cases_eq}
use Rattle.rows.specs.declared.event.Event.{Event}
use Rattle.rows.specs.declared.event.Event.TheVariants.{Lock, Release, Start, Join}
use Rattle.recording.specs.Recording.{Recording, none, ◌▸◌, actor, thread_events}
use Rattle.recording.specs.Halts.{takes, frees, count}
use Rattle.recording.specs.Ledger.{HoldsNow}
use Rattle.recording.specs.Edges.{Guards}
use Rattle.recording.proofs.Twins.{acts, rests}

-- How many events of a list pass a test.
abbrev tally : (Event → Bool) → List Event → ℕ
tally f [] = 0
tally f (e ∷ es) = cond (f e) 1 0 + tally f es

-- A test that passes events of one thread only counts in that thread's list.
count_own : (f : Event → Bool) (t : ℕ) → ((e : Event) → (actor e ≡ t → ⊥) → f e ≡ false) → (ρ : Recording)
    → count f (λ p. true) ρ ≡ tally f (thread_events t ρ)
count_own f t own none = refl
count_own f t own (ρ ▸ e) = go (cases_eq (actor e) t) (count_own f t own ρ)
  where
    go : (actor e ≡ t) ⊎ (actor e ≡ t → ⊥) → count f (λ p. true) ρ ≡ tally f (thread_events t ρ)
        → count f (λ p. true) (ρ ▸ e) ≡ tally f (thread_events t (ρ ▸ e))
    go (inl acting) ih = ap (λ n. cond (f e) 1 0 + n) ih ∙ ap (tally f) (sym (acts ρ e t acting))
    go (inr apart) ih = omega (arith, ih, ap {B = ℕ} (λ b. cond b 1 0) (own e apart), ap (tally f) (rests ρ e t apart))

takes_own : (t l : ℕ) (e : Event) → (actor e ≡ t → ⊥) → takes t l e ≡ false
takes_own t l (Lock v o) apart = rw (ne_eqb v t apart)
takes_own t l (Release v o) apart = refl
takes_own t l (Start v u) apart = refl
takes_own t l (Join v u) apart = refl

frees_own : (t l : ℕ) (e : Event) → (actor e ≡ t → ⊥) → frees t l e ≡ false
frees_own t l (Lock v o) apart = refl
frees_own t l (Release v o) apart = rw (ne_eqb v t apart)
frees_own t l (Start v u) apart = refl
frees_own t l (Join v u) apart = refl

count_alike : (f : Event → Bool) (t : ℕ) → ((e : Event) → (actor e ≡ t → ⊥) → f e ≡ false) → (π κ : Recording)
    → thread_events t κ ≡ thread_events t π → count f (λ p. true) π ≡ count f (λ p. true) κ
count_alike f t own π κ same = count_own f t own π ∙ ap (tally f) (sym same) ∙ sym (count_own f t own κ)

pub holds_alike : (π κ : Recording) (t l : ℕ) → thread_events t κ ≡ thread_events t π → HoldsNow π t l → HoldsNow κ t l
holds_alike π κ t l same h =
    omega (arith, h, count_alike (takes t l) t (takes_own t l) π κ same, count_alike (frees t l) t (frees_own t l) π κ same)

pub guards_alike : (π κ : Recording) (t g : ℕ) → thread_events t κ ≡ thread_events t π → Guards π t g → Guards κ t g
guards_alike π κ t g same h =
    (h.0, λ l. (λ i. holds_alike π κ t l same ((h.1 l).0 i), λ i. (h.1 l).1 (holds_alike κ π t l (sym same) i)))
