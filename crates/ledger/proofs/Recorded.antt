-- The laws of the rules, at what a call answers and leaves.
-- Assumes nothing.
use Rattle.std.proofs.Common.{◌≡◌, ℕ, ◌+◌, ◌↔◌, length, Ok, Err, ◌≢◌, sym, ◌∙◌}
use Rattle.order.specs.declared.cause.OrderCause.TheVariants.{End}
use Rattle.rows.specs.declared.event.Event.{Event}
use Rattle.recording.specs.Ledger.{Allowed}
use Rattle.recording.specs.Recording.{Recording}
use Rattle.rules.specs.Behind.{Behind}
use Rattle.rules.specs.Calls.{Answer}
use Rattle.rules.specs.Laws.{Room}
use Rattle.rules.specs.States.{State, answer, after, recorded}
use Rattle.rules.specs.declared.cause.EventCause.TheVariants.{Order}
use Rattle.rules.proofs.Accepting.{allowed_are_accepted}
use Rattle.rules.proofs.Recorded.{events_are_recorded, ends_are_open}

module _ (limit : ℕ) (e : Event) {ρ : Recording} {s : State} (b : Behind ρ s) where
  pub recorded_at : {σ : Recording} {t : State} → σ ≡ recorded limit s ρ e → t ≡ after limit s e → Behind σ t
  recorded_at is leads = rw (is, leads) (events_are_recorded limit ρ s b e)

  pub accepted_at : {r : Answer} → r ≡ answer limit s e
      → (r ≡ Ok tt) ↔ (Allowed ρ e × Room limit (length s.edges.records + length s.edges.free) ρ e)
  accepted_at is = rw is (allowed_are_accepted limit ρ s b e)

  pub open_at : {r : Answer} → r ≡ answer limit s e → r ≢ Err (Order End)
  open_at is end = ends_are_open limit ρ s b e (sym is ∙ end)
