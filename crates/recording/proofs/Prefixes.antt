-- Recordings that another one begins with, and what stands at a place.
-- Assumes nothing.
use Rattle.std.proofs.Common.{◌≡◌, ℕ, ◌<◌, ◌≤◌, true, cond, eqb, ◌⊎◌, Some, None, Option, sym, refl, ap, ◌∙◌, subst, inl, inr, ⊎_elim, arith}
use Rattle.std.proofs.lemmas.Bool.{cond-true, cond-false, eq-eqb, ne_eqb, eqb-true, cases_Bool, cases_lt}
use Rattle.rows.specs.declared.event.Event.{Event}
use Rattle.recording.specs.Recording.{Recording, none, ◌▸◌, size, event}
use Rattle.recording.specs.Ledger.{Accepted}

infix 15 ◌⊑◌
-- ρ begins with σ.
pub data ◌⊑◌ (σ : Recording) : Recording → Type 0 where
  now : {ρ : Recording} → σ ≡ ρ → σ ⊑ ρ
  later : {ρ : Recording} {e : Event} → σ ⊑ ρ → σ ⊑ (ρ ▸ e)

pub ⊑_size : {σ ρ : Recording} → σ ⊑ ρ → size σ ≤ size ρ
⊑_size (now p) = let q = ap size p in omega arith
⊑_size (later h) = let k = ⊑_size h in omega arith

pub ⊑_trans : {σ τ ρ : Recording} → σ ⊑ τ → τ ⊑ ρ → σ ⊑ ρ
⊑_trans {σ} g (now p) = subst (λ x. σ ⊑ x) p g
⊑_trans g (later h) = later (⊑_trans g h)

pub ⊑_init : {σ ρ : Recording} {a : Event} → (σ ▸ a) ⊑ ρ → σ ⊑ ρ
⊑_init h = ⊑_trans (later (now refl)) h

pub ⊑_none : (ρ : Recording) → none ⊑ ρ
⊑_none none = now refl
⊑_none (ρ ▸ a) = later (⊑_none ρ)

-- Of two beginnings the shorter begins the longer.
pub ⊑_shorter : {σ τ ρ : Recording} → σ ⊑ ρ → τ ⊑ ρ → size σ ≤ size τ → σ ⊑ τ
⊑_shorter {σ} g (now p) k = subst (λ x. σ ⊑ x) (sym p) g
⊑_shorter (now q) (later h) k = let l = ⊑_size h in let z = ap size q in absurd (omega arith)
⊑_shorter (later g) (later h) k = ⊑_shorter g h k

-- What begins with τ ▸ b is that, or begins τ.
pub ⊑_cases : {σ τ : Recording} {b : Event} → σ ⊑ (τ ▸ b) → (σ ≡ (τ ▸ b)) ⊎ (σ ⊑ τ)
⊑_cases (now p) = inl p
⊑_cases (later h) = inr h

pub ▸_left : {σ τ : Recording} {a b : Event} → (σ ▸ a) ≡ (τ ▸ b) → σ ≡ τ
▸_left p = cc

pub ▸_right : {σ τ : Recording} {a b : Event} → (σ ▸ a) ≡ (τ ▸ b) → a ≡ b
▸_right p = cc

-- Two events of a recording: the first is earlier, or they are one, or the second is earlier.
pub ⊑_order : {σ τ ρ : Recording} {a b : Event} → (σ ▸ a) ⊑ ρ → (τ ▸ b) ⊑ ρ → ((σ ▸ a) ⊑ τ) ⊎ (((σ ▸ a) ≡ (τ ▸ b)) ⊎ ((τ ▸ b) ⊑ σ))
⊑_order {σ} {τ} {ρ} {a} {b} g h = ⊎_elim left right (cases_lt (size τ) (size σ))
  where
    Order : Type 0
    Order = ((σ ▸ a) ⊑ τ) ⊎ (((σ ▸ a) ≡ (τ ▸ b)) ⊎ ((τ ▸ b) ⊑ σ))

    left : size τ < size σ → Order
    left k = ⊎_elim (λ p. inr (inl (sym p))) (λ m. inr (inr m)) (⊑_cases (⊑_shorter h g (omega arith)))

    right : size σ ≤ size τ → Order
    right k = ⊎_elim (λ p. inr (inl p)) (λ m. inl m) (⊑_cases (⊑_shorter g h (omega arith)))

pub accepted_init : {σ ρ : Recording} → σ ⊑ ρ → Accepted ρ → Accepted σ
accepted_init (now p) h = subst Accepted (sym p) h
accepted_init (later m) h = accepted_init m h.0

-- What f says of the event at a place and of what went before it.
abbrev pub read : {A : Type 0} → (Recording → Event → A) → A → Recording → ℕ → A
read f d none p = d
read f d (ρ ▸ e) p = cond (eqb p (size ρ)) (f ρ e) (read f d ρ p)

pub read_at : {A : Type 0} (f : Recording → Event → A) (d : A) {σ : Recording} {a : Event} {ρ : Recording} → (σ ▸ a) ⊑ ρ
    → read f d ρ (size σ) ≡ f σ a
read_at f d {σ} {a = a} (now p) =
    subst (λ x. read f d x (size σ) ≡ f σ a) p
    (cond-true (eqb (size σ) (size σ)) (f σ a) (read f d σ (size σ)) (eq-eqb (size σ) (size σ) refl))
read_at f d {σ} {a = a} (later {ρ} {e} h) =
    cond-false (eqb (size σ) (size ρ)) (f ρ e) (read f d ρ (size σ))
    (ne_eqb (size σ) (size ρ) (λ q. let k = ⊑_size h in omega arith)) ∙ read_at f d h

event_read : (ρ : Recording) (p : ℕ) → event ρ p ≡ read (λ r e. Some e) None ρ p
event_read none p = refl
event_read (ρ ▸ e) p = ap (cond (eqb p (size ρ)) (Some e)) (event_read ρ p)

-- The event that a beginning ends with stands at its place.
pub event_at : {σ : Recording} {a : Event} {ρ : Recording} → (σ ▸ a) ⊑ ρ → event ρ (size σ) ≡ Some a
event_at {σ} {a} {ρ} h = event_read ρ (size σ) ∙ read_at (λ r e. Some e) None h

-- Each event that stands somewhere ends a beginning.
pub record Found (ρ : Recording) (p : ℕ) (a : Event) : Type 0 where
  pub before : Recording
  pub place : size before ≡ p
  pub is : (before ▸ a) ⊑ ρ

some_is : {a b : Event} → Some a ≡ Some b → a ≡ b
some_is p = cc

none_some : {a : Event} → ◌≡◌ {A = Option Event} None (Some a) → ⊥
none_some p = let z : ◌≡◌ {A = ℕ} 0 1 = cc in omega arith

pub found : (ρ : Recording) {p : ℕ} {a : Event} → event ρ p ≡ Some a → Found ρ p a
found none h = absurd (none_some h)
found (ρ ▸ e) {p} {a} h =
    ⊎_elim here (λ f. there (found ρ (sym (cond-false (eqb p (size ρ)) (Some e) (event ρ p) f) ∙ h)))
    (cases_Bool (eqb p (size ρ)))
  where
    here : eqb p (size ρ) ≡ true → Found (ρ ▸ e) p a
    here t =
        record {
          before = ρ;
          place = sym (eqb-true p (size ρ) t);
          is = now (ap (λ x. ρ ▸ x) (some_is (sym h ∙ cond-true (eqb p (size ρ)) (Some e) (event ρ p) t)));
        }

    there : Found ρ p a → Found (ρ ▸ e) p a
    there w = record { before = w.before; place = w.place; is = later w.is }
