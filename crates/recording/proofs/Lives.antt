-- When threads are unborn, live and joined.
-- Assumes nothing.
use Rattle.std.proofs.Common.{◌≡◌, ℕ, eqb, sym, refl, ap, ◌∙◌, subst, ⊎_elim, arith}
use Rattle.std.proofs.lemmas.Bool.{cond-true, cond-false, eq-eqb, ne_eqb, cases_eq}
use Rattle.rows.specs.declared.event.Event.{Event}
use Rattle.rows.specs.declared.event.Event.TheVariants.{Lock, Release, Start, Join}
use Rattle.recording.specs.Recording.{Recording, ◌▸◌, actor}
use Rattle.recording.specs.Ledger.{unborn, live, joined, life, Allowed, Accepted}
use Rattle.recording.proofs.Prefixes.{◌⊑◌, now, later}

-- The thread has come into being.
abbrev pub Born : Recording → ℕ → Type 0
Born ρ v = life ρ v ≡ unborn → ⊥

pub live≢unborn : live ≡ unborn → ⊥
live≢unborn p = let z : ◌≡◌ {A = ℕ} 0 1 = cc in omega arith

pub joined≢unborn : joined ≡ unborn → ⊥
joined≢unborn p = let z : ◌≡◌ {A = ℕ} 0 1 = cc in omega arith

pub live≢joined : live ≡ joined → ⊥
live≢joined p = let z : ◌≡◌ {A = ℕ} 0 1 = cc in omega arith

pub live_born : (ρ : Recording) (v : ℕ) → life ρ v ≡ live → Born ρ v
live_born ρ v l e = live≢unborn (sym l ∙ e)

pub life_started : (ρ : Recording) (t u : ℕ) → life (ρ ▸ Start t u) u ≡ live
life_started ρ t u = cond-true (eqb u u) live (life ρ u) (eq-eqb u u refl)

pub life_start_other : (ρ : Recording) (t u v : ℕ) → (v ≡ u → ⊥) → life (ρ ▸ Start t u) v ≡ life ρ v
life_start_other ρ t u v ne = cond-false (eqb v u) live (life ρ v) (ne_eqb v u ne)

pub life_joined : (ρ : Recording) (t u : ℕ) → life (ρ ▸ Join t u) u ≡ joined
life_joined ρ t u = cond-true (eqb u u) joined (life ρ u) (eq-eqb u u refl)

pub life_join_other : (ρ : Recording) (t u v : ℕ) → (v ≡ u → ⊥) → life (ρ ▸ Join t u) v ≡ life ρ v
life_join_other ρ t u v ne = cond-false (eqb v u) joined (life ρ v) (ne_eqb v u ne)

-- The acting thread is live.
pub actor_live : (ρ : Recording) (a : Event) → Allowed ρ a → life ρ (actor a) ≡ live
actor_live ρ (Lock t o) h = h.2
actor_live ρ (Release t o) h = h.2
actor_live ρ (Start t u) h = h.2
actor_live ρ (Join t u) h = h.2

pub still_born : (ρ : Recording) (e : Event) (v : ℕ) → Born ρ v → Born (ρ ▸ e) v
still_born ρ (Lock t o) v b = b
still_born ρ (Release t o) v b = b
still_born ρ (Start t u) v b =
    ⊎_elim (λ q z. live≢unborn (sym (life_started ρ t u) ∙ (ap (life (ρ ▸ Start t u)) (sym q) ∙ z)))
    (λ ne z. b (sym (life_start_other ρ t u v ne) ∙ z)) (cases_eq v u)
still_born ρ (Join t u) v b =
    ⊎_elim (λ q z. joined≢unborn (sym (life_joined ρ t u) ∙ (ap (life (ρ ▸ Join t u)) (sym q) ∙ z)))
    (λ ne z. b (sym (life_join_other ρ t u v ne) ∙ z)) (cases_eq v u)

-- Who is born stays born.
pub stays_born : (v : ℕ) {σ ρ : Recording} → σ ⊑ ρ → Born σ v → Born ρ v
stays_born v (now p) b = subst (λ x. Born x v) p b
stays_born v (later {ρ} {e} h) b = still_born ρ e v (stays_born v h b)

pub still_joined : (ρ : Recording) (e : Event) (v : ℕ) → Allowed ρ e → life ρ v ≡ joined → life (ρ ▸ e) v ≡ joined
still_joined ρ (Lock t o) v al j = j
still_joined ρ (Release t o) v al j = j
still_joined ρ (Start t u) v al j = life_start_other ρ t u v (λ q. joined≢unborn (sym j ∙ (ap (life ρ) q ∙ al.3))) ∙ j
still_joined ρ (Join t u) v al j =
    ⊎_elim (λ q. ap (life (ρ ▸ Join t u)) q ∙ life_joined ρ t u) (λ ne. life_join_other ρ t u v ne ∙ j) (cases_eq v u)

-- Who is joined stays joined.
pub stays_joined : (v : ℕ) {σ ρ : Recording} → σ ⊑ ρ → Accepted ρ → life σ v ≡ joined → life ρ v ≡ joined
stays_joined v (now p) acc j = subst (λ x. life x v ≡ joined) p j
stays_joined v (later {ρ} {e} h) acc j = still_joined ρ e v acc.1 (stays_joined v h acc.0 j)
