-- A thread that stands at an event of a halt, and the place where an edge is drawn.
-- Assumes nothing.
use Rattle.std.proofs.Common.{◌≡◌, ℕ, ◌<◌, ◌≤◌, Bool, true, false, sym, refl, ap, ◌∙◌, subst, ap₂, inl, inr, ⊎_elim, arith}
use Rattle.std.proofs.lemmas.Bool.{cases_Bool, cases_lt, false≢true}
use Rattle.rows.specs.declared.event.Event.{Event}
use Rattle.rows.specs.declared.event.Event.TheVariants.{Lock, Release, Start, Join}
use Rattle.rows.specs.declared.edge.Edge.{Edge}
use Rattle.recording.specs.Recording.{Recording, none, ◌▸◌, size, actor, in_thread}
use Rattle.recording.specs.Segments.{segment}
use Rattle.recording.specs.Halts.{Halt}
use Rattle.recording.specs.Ledger.{HoldsNow}
use Rattle.recording.specs.Edges.{Guards, Draws, DrawnAt, DrawnIn}
use Rattle.recording.proofs.Prefixes.{◌⊑◌, now, later, ⊑_init, event_at}
use Rattle.recording.proofs.Counts.{Stood, T_true, true_T}

-- Of a thread that stands at an event, all before it is in the halt and nothing after.
pub stands : (ρ : Recording) (halted : ℕ → Bool) → Halt ρ halted → {σ : Recording} {a : Event} → (σ ▸ a) ⊑ ρ
    → halted (size σ) ≡ false → ((τ : Recording) (e : Event) → (τ ▸ e) ⊑ σ → actor e ≡ actor a → halted (size τ) ≡ true)
    → Stood ρ σ halted (actor a)
stands ρ halted halt {σ} {a} h out done = record { begins = ⊑_init h; done = done; undone = undone }
  where
    not_after : {τ : Recording} {e : Event} → (τ ▸ e) ⊑ ρ → actor e ≡ actor a → size σ < size τ → halted (size τ) ≡ true → ⊥
    not_after {τ} m s k y =
        false≢true (sym out ∙ T_true (halted (size σ))
        (halt.closed (size σ) (size τ) (in_thread (event_at h) (event_at m) (sym s) k) (true_T y)))

    undone : (τ : Recording) (e : Event) → (τ ▸ e) ⊑ ρ → size σ ≤ size τ → actor e ≡ actor a → halted (size τ) ≡ false
    undone τ e m k s =
        ⊎_elim (λ l. ⊎_elim (λ y. absurd (not_after m s l y)) (λ n. n) (cases_Bool (halted (size τ))))
        (λ l. let q : size τ ≡ size σ = omega arith in ap halted q ∙ out) (cases_lt (size σ) (size τ))

-- The place where an edge was drawn.
pub record Spot (ρ : Recording) (W : ℕ → Type 0) (e : Edge) : Type 0 where
  pub before : Recording
  pub is : (before ▸ Lock e.thread e.wanted) ⊑ ρ
  pub within : W (size before)
  pub holds : HoldsNow before e.thread e.held
  pub guards : Guards before e.thread e.guards
  pub segment_is : e.segment ≡ segment before e.thread

spot_latest : (ρ : Recording) (W : ℕ → Type 0) (a : Event) (e : Edge) → W (size ρ) → Draws ρ a e → Spot (ρ ▸ a) W e
spot_latest ρ W (Lock t o) e w d = record {
  before = ρ;
  is = now (ap₂ (λ x y. ρ ▸ Lock x y) d.0 d.1);
  within = w;
  holds = subst (λ x. HoldsNow ρ x e.held) (sym d.0) d.2;
  guards = subst (λ x. Guards ρ x e.guards) (sym d.0) d.3;
  segment_is = d.4 ∙ ap (segment ρ) (sym d.0);
}
spot_latest ρ W (Release t o) e w d = absurd d
spot_latest ρ W (Start t o) e w d = absurd d
spot_latest ρ W (Join t o) e w d = absurd d

spot_at : (ρ : Recording) (W : ℕ → Type 0) (p : ℕ) (e : Edge) → W p → DrawnAt ρ p e → Spot ρ W e
spot_at none W p e w d = absurd d
spot_at (ρ ▸ a) W p e w (inl d) = spot_latest ρ W a e (subst W d.0 w) d.1
spot_at (ρ ▸ a) W p e w (inr d) =
    let s = spot_at ρ W p e w d in
    record {
      before = s.before;
      is = later s.is;
      within = s.within;
      holds = s.holds;
      guards = s.guards;
      segment_is = s.segment_is;
    }

pub spot : (ρ : Recording) (W : ℕ → Type 0) (e : Edge) → DrawnIn ρ W e → Spot ρ W e
spot ρ W e d = spot_at ρ W d.0 e d.1 d.2

drawn_at : {σ : Recording} {a : Event} {ρ : Recording} (e : Edge) → (σ ▸ a) ⊑ ρ → Draws σ a e → DrawnAt ρ (size σ) e
drawn_at {σ} e (now p) d = subst (λ r. DrawnAt r (size σ) e) p (inl (refl, d))
drawn_at e (later m) d = inr (drawn_at e m d)

pub drawn : (ρ : Recording) (W : ℕ → Type 0) (e : Edge) → Spot ρ W e → DrawnIn ρ W e
drawn ρ W e s = (size s.before, s.within, drawn_at e s.is (refl, refl, s.holds, s.guards, s.segment_is))
