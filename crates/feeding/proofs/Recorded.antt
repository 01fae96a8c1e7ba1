-- The recording behind, as a file is fed.
-- Assumes nothing.
use Rattle.std.proofs.Common.{◌≡◌, ℕ, ◌⊎◌, List, [], ◌∷◌, Err, Result, sym, refl, ap, ◌∙◌, subst, inl, inr, arith}
use Rattle.order.specs.declared.cause.OrderCause.{OrderCause}
use Rattle.order.specs.declared.cause.OrderCause.TheVariants.{End}
use Rattle.rows.specs.declared.event.Event.{Event}
use Rattle.text.specs.declared.fault.TextCause.{TextCause}
use Rattle.recording.specs.Recording.{Recording, ◌▸◌, followed}
use Rattle.rules.specs.declared.cause.EventCause.{EventCause}
use Rattle.rules.specs.declared.cause.EventCause.TheVariants.{Ledger as in_ledger, Order as in_order}
use Rattle.rules.specs.Behind.{Behind}
use Rattle.rules.specs.Calls.{unless_refused}
use Rattle.rules.specs.Laws.{ListsAreRecorded, EndsAreOpen}
use Rattle.rules.specs.States.{State, after, after_all, recorded_all}
use Rattle.rules.proofs.Recorded.{lists_are_recorded, ends_are_open}
use Rattle.feed.specs.declared.fault.Cause.TheVariants.{Text, Order}
use Rattle.feed.specs.declared.fault.Fault.{Fault}
use Rattle.feeding.specs.declared.fault.Stop.{Stop}
use Rattle.feeding.specs.Files.{file_answer, events_taken, after_file, AllAccepted, Feeds, TooLong, FirstFault, Bad}
use Rattle.feed.specs.Lines.{first_of}
use Rattle.feeding.specs.Stops.{event_stop}
use Rattle.feeding.proofs.Fed.{feeds, events_accepted}

all_recorded : (limit : ℕ) (es : List Event) (s : State) (ρ : Recording) → AllAccepted limit s es
    → recorded_all limit s ρ es ≡ followed ρ es
all_recorded limit [] s ρ h = refl
all_recorded limit (e ∷ es) s ρ h =
    ap (λ r. recorded_all limit (after limit s e) (unless_refused r (ρ ▸ e) ρ) es) h.0
    ∙ all_recorded limit es (after limit s e) (ρ ▸ e) h.1

text≢order : {x : TextCause} {y : OrderCause} → Text x ≡ Order y → ⊥
text≢order e = let z : ◌≡◌ {A = ℕ} 0 1 = cc in omega arith

event_order : (c : EventCause) → (event_stop c).cause ≡ Order End → c ≡ in_order End
event_order (in_ledger c) e = let z : ◌≡◌ {A = ℕ} 0 1 = cc in absurd (omega arith)
event_order (in_order c) e = let same : c ≡ End = cc in ap in_order same

module _ (recorded : ListsAreRecorded) (opens : EndsAreOpen) (limit : ℕ) (s : State) (ρ : Recording) (b : Behind ρ s) where
  follows : (es : List Event) → AllAccepted limit s es → Behind (followed ρ es) (after_all limit s es)
  follows es h = subst (λ σ. Behind σ (after_all limit s es)) (all_recorded limit es s ρ h) (recorded limit ρ s b es)

  -- the events of the lines before the fault come to the end of the recording
  pub file_recorded : (file : List ℕ) → Behind (followed ρ (events_taken limit s file)) (after_file limit s file)
  file_recorded file = follows (events_taken limit s file) (events_accepted limit s file)

  -- and no fault says that a segment is no open end
  pub file_open : (file : List ℕ) (f : Fault) → TooLong file f ⊎ FirstFault limit s file f → f.cause ≡ Order End → ⊥
  file_open file f (inl h) e = text≢order (ap (λ (g : Fault). g.cause) (sym h.1) ∙ e)
  file_open file f (inr h) e = go h.bad
    where
      cause : h.stop.cause ≡ Order End
      cause = ap (λ (g : Fault). g.cause) (sym h.is) ∙ e

      go : Bad limit (after_all limit s h.before) (first_of h.rest) h.stop → ⊥
      go (inl (x, r, i)) = text≢order (ap (λ (z : Stop). z.cause) (sym i) ∙ cause)
      go (inr (a, c, r, q, i)) =
          let is = event_order c (ap (λ (z : Stop). z.cause) (sym i) ∙ cause) in
          opens limit _ _ (follows h.before h.accepted) a (q ∙ ap Err is)

-- ---- r is what feeding answers, and t what it leaves

module _ (limit : ℕ) (s : State) (file : List ℕ) where
  pub fed_feeds : {r : Result ℕ Fault} → r ≡ file_answer limit s file → Feeds limit s file r
  fed_feeds e = subst (Feeds limit s file) (sym e) (feeds limit s file)

  pub fed_behind : {t : State} → t ≡ after_file limit s file → (ρ : Recording) → Behind ρ s → Behind (followed ρ (events_taken limit s file)) t
  fed_behind e ρ b = subst (Behind _) (sym e) (file_recorded lists_are_recorded ends_are_open limit s ρ b file)

  pub fed_open : {r : Result ℕ Fault} → r ≡ file_answer limit s file → (ρ : Recording) → Behind ρ s
      → (f : Fault) → r ≡ Err f → f.cause ≡ Order End → ⊥
  fed_open e ρ b f h = file_open lists_are_recorded ends_are_open limit s ρ b file f ((feeds limit s file).stops f (sym e ∙ h))
