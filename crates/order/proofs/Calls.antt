-- What a fork and a meet come to, step by step, whatever the implementation.
use Rattle.std.proofs.Common.{◌≡◌, ℕ, ◌+◌, ◌≤◌, Bool, true, false, not, ◌&&◌, ◌||◌, eqb, leb, Ok, Err, Result, refl, ap, ◌∙◌, inl, inr, arith}
use mathlib.Core.Path.{fun_ext}
use Rattle.std.proofs.lemmas.Bool.{cases_Bool, leb-true, and_parts}
use Rattle.order.specs.declared.cause.OrderCause.{OrderCause}
use Rattle.order.specs.declared.cause.OrderCause.TheVariants.{Ceiling}
use Rattle.order.specs.Meaning.{Meaning, upto, closed, opened, admitted, unless_refused, forked, met, fork_answer, meet_answer}

pub stays : (r : Result ℕ OrderCause) (e : OrderCause) (new old : Meaning) → r ≡ Err e → old ≡ unless_refused r new old
stays r e new old h = rw h refl

pub grows : (r : Result ℕ OrderCause) (n : ℕ) (new old : Meaning) → r ≡ Ok n → new ≡ unless_refused r new old
grows r n new old h = rw h refl

pub forks : (m m₁ m₂ m₃ : Meaning) (x : ℕ) (p q : ℕ → Bool) → m₁ ≡ closed m x → m₂ ≡ opened m₁ p → m₃ ≡ opened m₂ q
    → ((a : ℕ) → p a ≡ upto m x a) → ((a : ℕ) → q a ≡ upto m x a) → m₃ ≡ forked m x
forks m m₁ m₂ m₃ x p q e₁ e₂ e₃ f g =
    e₃ ∙ ap (λ k. opened k q) (e₂ ∙ ap (λ k. opened k p) e₁)
    ∙ ap (λ h. opened (opened (closed m x) h) q) (fun_ext f) ∙ ap (opened (opened (closed m x) (upto m x))) (fun_ext g)

pub meets : (m m₁ m₂ : Meaning) (x y : ℕ) (p : ℕ → Bool) → m₁ ≡ closed m x → m₂ ≡ opened m₁ p
    → ((a : ℕ) → p a ≡ (upto m x a || upto m y a)) → m₂ ≡ met m x y
meets m m₁ m₂ x y p e₁ e₂ f = e₂ ∙ ap (λ k. opened k p) e₁ ∙ ap (opened (closed m x)) (fun_ext f)

-- What an admitted call has passed, and what it answers.
pub admits : (limit n wanted k : ℕ) (good : Bool) → admitted limit n wanted good ≡ Ok k
    → (n + wanted ≤ limit) × (good ≡ true) × (k ≡ n)
admits limit n wanted k true h =
    elim (cases_Bool (leb (n + wanted) limit)) [
      | inl t ↦ (leb-true (n + wanted) limit t, refl, let q : Ok n ≡ Ok k = rw t at h in cc)
      | inr f ↦ let z : ◌≡◌ {A = ℕ} 0 1 = let q : Err Ceiling ≡ Ok k = rw f at h in cc in absurd (omega arith)
    ]
admits limit n wanted k false h = let z : ◌≡◌ {A = ℕ} 0 1 = cc in absurd (omega arith)

pub fork_admits : (limit : ℕ) (m : Meaning) (x k : ℕ) → fork_answer limit m x ≡ Ok k
    → (m.segments + 2 ≤ limit) × (m.ends x ≡ true) × (k ≡ m.segments)
fork_admits limit m x k h = admits limit m.segments 2 k (m.ends x) h

pub meet_admits : (limit : ℕ) (m : Meaning) (x y k : ℕ) → meet_answer limit m x y ≡ Ok k
    → (m.segments + 1 ≤ limit) × (m.ends x ≡ true) × (m.ends y ≡ true)
meet_admits limit m x y k h =
    let p = admits limit m.segments 1 k (not (eqb x y) && (m.ends x && m.ends y)) h in
    let q = and_parts (m.ends x) (m.ends y) (and_parts (not (eqb x y)) (m.ends x && m.ends y) p.1).1 in
    (p.0, q.0, q.1)
