-- What a thread holds at a halt is what it holds just before the event it stands at.
-- Assumes nothing.
use Rattle.std.proofs.Common.{◌≡◌, ℕ, ◌+◌, ◌<◌, ◌≤◌, Bool, true, false, cond, ◌&&◌, T, eqb, ◌↔◌, sym, refl, ap, ◌∙◌, subst, ⊎_elim, zero-add, arith}
use Rattle.std.proofs.lemmas.Bool.{eqb-true, and_parts, cases_Bool, and_left, and_right, and_from, false≢true}
use Rattle.rows.specs.declared.event.Event.{Event}
use Rattle.rows.specs.declared.event.Event.TheVariants.{Lock, Release, Start, Join}
use Rattle.recording.specs.Recording.{Recording, none, ◌▸◌, size, actor}
use Rattle.recording.specs.Halts.{takes, frees, count, Holds}
use Rattle.recording.specs.Ledger.{HoldsNow, Accepted}
use Rattle.recording.proofs.Prefixes.{◌⊑◌, now, later, ⊑_size, accepted_init}

pub true_T : {b : Bool} → b ≡ true → T b
true_T e = subst T (sym e) tt

pub T_true : (b : Bool) → T b → b ≡ true
T_true true h = refl
T_true false h = absurd h

takes_actor : (t l : ℕ) (e : Event) → takes t l e ≡ true → actor e ≡ t
takes_actor t l (Lock v o) h = eqb-true v t (and_parts (eqb v t) (eqb o l) h).0
takes_actor t l (Release v o) h = absurd (false≢true h)
takes_actor t l (Start v o) h = absurd (false≢true h)
takes_actor t l (Join v o) h = absurd (false≢true h)

frees_actor : (t l : ℕ) (e : Event) → frees t l e ≡ true → actor e ≡ t
frees_actor t l (Lock v o) h = absurd (false≢true h)
frees_actor t l (Release v o) h = eqb-true v t (and_parts (eqb v t) (eqb o l) h).0
frees_actor t l (Start v o) h = absurd (false≢true h)
frees_actor t l (Join v o) h = absurd (false≢true h)

takes_is : (t l : ℕ) (e : Event) → takes t l e ≡ true → Lock t l ≡ e
takes_is t l (Lock v o) h = let a = and_parts (eqb v t) (eqb o l) h in let x = eqb-true v t a.0 in let y = eqb-true o l a.1 in cc
takes_is t l (Release v o) h = absurd (false≢true h)
takes_is t l (Start v o) h = absurd (false≢true h)
takes_is t l (Join v o) h = absurd (false≢true h)

module _ (f : Event → Bool) (halted : ℕ → Bool) where
  -- Where every event that passes is in the set, the set does not matter.
  count_inside : (σ : Recording) → ((τ : Recording) (e : Event) → (τ ▸ e) ⊑ σ → f e ≡ true → halted (size τ) ≡ true)
      → count f halted σ ≡ count f (λ p. true) σ
  count_inside none h = refl
  count_inside (σ ▸ e) h =
      ap (λ b. cond b 1 0 + count f halted σ) same ∙ ap (λ n. cond (f e) 1 0 + n) (count_inside σ (λ τ a m. h τ a (later m)))
    where
      same : (halted (size σ) && f e) ≡ f e
      same =
          ⊎_elim (λ y. and_from (halted (size σ)) (f e) (h σ e (now refl) y) y ∙ sym y)
          (λ n. and_right (halted (size σ)) (f e) n ∙ sym n) (cases_Bool (f e))

  -- Events outside the set do not count.
  count_outside : {σ ρ : Recording} → σ ⊑ ρ
      → ((τ : Recording) (e : Event) → (τ ▸ e) ⊑ ρ → size σ ≤ size τ → f e ≡ true → halted (size τ) ≡ false)
      → count f halted ρ ≡ count f halted σ
  count_outside (now p) h = ap (count f halted) (sym p)
  count_outside (later {ρ} {e} m) h =
      ap (λ b. cond b 1 0 + count f halted ρ) none_here ∙
      (zero-add (count f halted ρ) ∙ count_outside m (λ τ a k. h τ a (later k)))
    where
      none_here : (halted (size ρ) && f e) ≡ false
      none_here =
          ⊎_elim (λ y. and_left (halted (size ρ)) (f e) (h ρ e (now refl) (⊑_size m) y))
          (λ n. and_right (halted (size ρ)) (f e) n) (cases_Bool (f e))

-- At a halt a thread t has done what it did before σ ended, and nothing after.
pub record Stood (ρ σ : Recording) (halted : ℕ → Bool) (t : ℕ) : Type 0 where
  pub begins : σ ⊑ ρ
  pub done : (τ : Recording) (e : Event) → (τ ▸ e) ⊑ σ → actor e ≡ t → halted (size τ) ≡ true
  pub undone : (τ : Recording) (e : Event) → (τ ▸ e) ⊑ ρ → size σ ≤ size τ → actor e ≡ t → halted (size τ) ≡ false

module _ {ρ σ : Recording} {halted : ℕ → Bool} {t : ℕ} (s : Stood ρ σ halted t) where
  count_stood : (f : Event → Bool) → ((e : Event) → f e ≡ true → actor e ≡ t) → count f halted ρ ≡ count f (λ p. true) σ
  count_stood f own =
      count_outside f halted s.begins (λ τ e m k y. s.undone τ e m k (own e y)) ∙ count_inside f halted σ
      (λ τ e m y. s.done τ e m (own e y))

  pub held_at_halt : (l : ℕ) → Holds ρ halted t l ↔ HoldsNow σ t l
  held_at_halt l = (λ h. omega (arith, a, b), λ h. omega (arith, a, b))
    where
      a : count (takes t l) halted ρ ≡ count (takes t l) (λ p. true) σ
      a = count_stood (takes t l) (takes_actor t l)

      b : count (frees t l) halted ρ ≡ count (frees t l) (λ p. true) σ
      b = count_stood (frees t l) (frees_actor t l)

-- What is held was taken.
pub record Took (σ : Recording) (t l : ℕ) : Type 0 where
  pub before : Recording
  pub is : (before ▸ Lock t l) ⊑ σ

took_some : (t l : ℕ) (σ : Recording) → 0 < count (takes t l) (λ p. true) σ → Took σ t l
took_some t l none h = absurd (omega arith)
took_some t l (σ ▸ e) h = ⊎_elim here (λ n. there (took_some t l σ (rest n))) (cases_Bool (takes t l e))
  where
    here : takes t l e ≡ true → Took (σ ▸ e) t l
    here y = record { before = σ; is = now (ap (λ a. σ ▸ a) (takes_is t l e y)) }

    rest : takes t l e ≡ false → 0 < count (takes t l) (λ p. true) σ
    rest n = omega (arith, subst (λ b. 0 < cond b 1 0 + count (takes t l) (λ p. true) σ) n h)

    there : Took σ t l → Took (σ ▸ e) t l
    there w = record { before = w.before; is = later w.is }

pub took : (σ : Recording) (t l : ℕ) → HoldsNow σ t l → Took σ t l
took σ t l h = took_some t l σ (omega arith)

pub held_small : (σ : Recording) → Accepted σ → (t l : ℕ) → HoldsNow σ t l → l ≤ 63
held_small σ acc t l h = (accepted_init (took σ t l h).is acc).1.1
