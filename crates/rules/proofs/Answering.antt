-- When an event is accepted, by what the checks and the order answer.
-- Assumes nothing.
use Rattle.std.proofs.Common.{◌≡◌, ℕ, ◌+◌, ◌≤◌, Bool, true, false, cond, leb, ◌↔◌, Ok, Err, Result, refl, ap, ◌∙◌, arith}
use Rattle.std.proofs.lemmas.Bool.{cond-true, le-leb}
use Rattle.order.specs.declared.cause.OrderCause.{OrderCause}
use Rattle.order.specs.declared.cause.OrderCause.TheVariants.{End, Ceiling}
use Rattle.order.specs.Meaning.{admitted}
use Rattle.order.proofs.Calls.{admits}
use Rattle.rules.specs.declared.cause.LedgerCause.{LedgerCause}
use Rattle.rules.specs.declared.cause.EventCause.{EventCause}
use Rattle.rules.specs.declared.cause.EventCause.TheVariants.{Order}
use Rattle.rules.specs.Calls.{Answer, by_ledger, by_order, then_order}

pub err≢ok : {X E : Type 0} {x : X} {c : E} → Err c ≡ Ok x → ⊥
err≢ok e = let z : ◌≡◌ {A = ℕ} 0 1 = cc in omega arith

-- What holds of an answer, where the event is accepted and where it is refused.
pub by_answer : (P : Answer → Type 0) (a : Answer) → (a ≡ Ok tt → P (Ok tt)) → ((c : EventCause) → P (Err c)) → P a
by_answer P (Ok x) accepted refused = accepted refl
by_answer P (Err c) accepted refused = refused c

pub ledger_accepts : (r : Result (Unit {0}) LedgerCause) → (by_ledger r ≡ Ok tt) ↔ (r ≡ Ok tt)
ledger_accepts (Ok x) = (λ e. refl, λ e. refl)
ledger_accepts (Err c) = (λ e. absurd (err≢ok e), λ e. absurd (err≢ok e))

-- The ledger alone never answers for the order.
pub ledger_only : (r : Result (Unit {0}) LedgerCause) (c : OrderCause) → by_ledger r ≡ Err (Order c) → ⊥
ledger_only (Ok x) c e = let z : ◌≡◌ {A = ℕ} 0 1 = cc in omega arith
ledger_only (Err d) c e = let z : ◌≡◌ {A = ℕ} 0 1 = cc in omega arith

-- ---- answers with the order, which has n segments and wants some more where the ends are open

module _ (limit n wanted : ℕ) where
  ok_from : (a : Result ℕ OrderCause) → by_order a ≡ Ok tt → (k : ℕ) × (a ≡ Ok k)
  ok_from (Ok k) e = (k, refl)
  ok_from (Err c) e = absurd (err≢ok e)

  pub order_accepts : (r : Result (Unit {0}) LedgerCause) (open_ends : Bool)
      → (then_order r (admitted limit n wanted open_ends) ≡ Ok tt) ↔ ((r ≡ Ok tt) × (open_ends ≡ true) × (n + wanted ≤ limit))
  order_accepts (Ok x) open_ends = (
    λ e. let k = ok_from (admitted limit n wanted open_ends) e in
        let a = admits limit n wanted k.0 open_ends k.1 in (refl, a.1, a.0),
    λ h. ap by_order (cond-true open_ends _ _ h.1 ∙ cond-true (leb (n + wanted) limit) _ _ (le-leb (n + wanted) limit h.2)),
  )
  order_accepts (Err c) open_ends = (λ e. absurd (err≢ok e), λ h. absurd (err≢ok h.0))

  end_closed : (a : Bool) → ◌≡◌ {A = Answer} (by_order (cond a (Ok n) (Err Ceiling))) (Err (Order End)) → ⊥
  end_closed true e = let z : ◌≡◌ {A = ℕ} 0 1 = cc in omega arith
  end_closed false e = let z : ◌≡◌ {A = ℕ} 0 1 = cc in omega arith

  -- The order speaks of ends only where the checks let the event through and an end is closed.
  pub order_ends : (r : Result (Unit {0}) LedgerCause) (open_ends : Bool)
      → then_order r (admitted limit n wanted open_ends) ≡ Err (Order End) → (r ≡ Ok tt) × (open_ends ≡ false)
  order_ends (Ok x) true e = absurd (end_closed (leb (n + wanted) limit) e)
  order_ends (Ok x) false e = (refl, refl)
  order_ends (Err c) open_ends e = let z : ◌≡◌ {A = ℕ} 0 1 = cc in absurd (omega arith)
