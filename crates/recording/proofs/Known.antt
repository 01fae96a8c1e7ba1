-- What a thread's segment can be reached from lies in the thread's past.
-- Assumes nothing.
use Rattle.std.proofs.Common.{◌≡◌, ℕ, ◌<◌, ◌≤◌, ◌⊎◌, Some, sym, refl, ap, ◌∙◌, subst, ap₂, inl, inr, ⊎_elim, arith}
use Rattle.rows.specs.declared.event.Event.{Event}
use Rattle.rows.specs.declared.event.Event.TheVariants.{Lock, Release, Start, Join}
use Rattle.recording.specs.Recording.{
  Recording,
  none,
  ◌▸◌,
  size,
  event,
  actor,
  Before,
  in_thread,
  start_acts,
  start_join,
  acts_join,
  over,
}
use Rattle.recording.specs.Segments.{next, segment, arrows}
use Rattle.recording.specs.Ledger.{live, life, Allowed, Accepted}
use Rattle.recording.proofs.Prefixes.{◌⊑◌, now, later, ⊑_size, ⊑_init, ⊑_cases, ▸_left, ▸_right, accepted_init, event_at, found}
use Rattle.recording.proofs.Paths.{Reaches, first_arrow, reach_reach}
use Rattle.recording.proofs.Lives.{Born, live_born, life_start_other}
use Rattle.recording.proofs.Numbering.{numbered, on_start, on_join, born_before}
use Rattle.recording.proofs.Latest.{next_grows, path_rises, start_new, join_new, reach_old}
use Rattle.recording.proofs.Moves.{out}

-- The event at p is, or comes before, one of thread v or the Start of v.
pub record Known (ρ : Recording) (p v : ℕ) : Type 0 where
  pub via : ℕ
  pub what : Event
  pub is : event ρ via ≡ Some what
  pub after : (p ≡ via) ⊎ Before ρ p via
  pub own : (actor what ≡ v) ⊎ ((t : ℕ) × (what ≡ Start t v))

event_stays : (ρ : Recording) (e : Event) (p : ℕ) {a : Event} → event ρ p ≡ Some a → event (ρ ▸ e) p ≡ Some a
event_stays ρ e p {a} h = let f = found ρ h in subst (λ q. event (ρ ▸ e) q ≡ Some a) f.place (event_at (later f.is))

before_stays : (ρ : Recording) (e : Event) {p q : ℕ} → Before ρ p q → Before (ρ ▸ e) p q
before_stays ρ e (in_thread a b s k) = in_thread (event_stays ρ e _ a) (event_stays ρ e _ b) s k
before_stays ρ e (start_acts a b) = start_acts (event_stays ρ e _ a) (event_stays ρ e _ b)
before_stays ρ e (start_join a b) = start_join (event_stays ρ e _ a) (event_stays ρ e _ b)
before_stays ρ e (acts_join a b) = acts_join (event_stays ρ e _ a) (event_stays ρ e _ b)
before_stays ρ e (over x y) = over (before_stays ρ e x) (before_stays ρ e y)

-- What comes before stays before.
pub before_later : {σ ρ : Recording} → σ ⊑ ρ → {p q : ℕ} → Before σ p q → Before ρ p q
before_later (now e) {p} {q} b = subst (λ r. Before r p q) e b
before_later (later {ρ} {e} h) b = before_stays ρ e (before_later h b)

known_stays : (ρ : Recording) (e : Event) {p v : ℕ} → Known ρ p v → Known (ρ ▸ e) p v
known_stays ρ e k =
    record {
      via = k.via;
      what = k.what;
      is = event_stays ρ e k.via k.is;
      after = ⊎_elim inl (λ b. inr (before_stays ρ e b)) k.after;
      own = k.own;
    }

latest : (ρ : Recording) (e : Event) → event (ρ ▸ e) (size ρ) ≡ Some e
latest ρ e = event_at {σ = ρ} (now refl)

known_then : (ρ : Recording) {p v q : ℕ} (k : Known ρ p v) → Before ρ k.via q → Before ρ p q
known_then ρ {q = q} k b = ⊎_elim (λ e. subst (λ x. Before ρ x q) (sym e) b) (λ c. over c b) k.after

-- What a thread knows comes before what it does next.
known_acts : (ρ : Recording) (e : Event) {p v : ℕ} → Known ρ p v → actor e ≡ v → Before (ρ ▸ e) p (size ρ)
unfolding known_stays
known_acts ρ e {p} {v} k s =
    known_then (ρ ▸ e) m (⊎_elim (λ a. in_thread m.is (latest ρ e) (a ∙ sym s) early)
    (λ b. start_acts (m.is ∙ ap Some (b.1 ∙ ap (Start b.0) (sym s))) (latest ρ e)) k.own)
  where
    m : Known (ρ ▸ e) p v
    m = known_stays ρ e k

    early : k.via < size ρ
    early = let f = found ρ k.is in omega (arith, f.place, ⊑_size f.is)

-- What a thread knew when it was joined comes before the Join.
known_joins : (ρ : Recording) (t u : ℕ) {p : ℕ} → Known ρ p u → Before (ρ ▸ Join t u) p (size ρ)
unfolding known_stays
known_joins ρ t u {p} k =
    known_then (ρ ▸ Join t u) m (⊎_elim (λ a. acts_join m.is (latest ρ (Join t u) ∙ ap (λ x. Some (Join t x)) (sym a)))
    (λ b. start_join (m.is ∙ ap Some b.1) (latest ρ (Join t u))) k.own)
  where
    m : Known (ρ ▸ Join t u) p u
    m = known_stays ρ (Join t u) k

-- The latest event is known to its thread.
known_self : (ρ : Recording) (e : Event) {v : ℕ} → (actor e ≡ v) ⊎ ((t : ℕ) × (e ≡ Start t v)) → Known (ρ ▸ e) (size ρ) v
known_self ρ e s = record { via = size ρ; what = e; is = latest ρ e; after = inl refl; own = s }

-- What comes before the latest event is known to its thread.
known_latest : (ρ : Recording) (e : Event) {p v : ℕ} → Before (ρ ▸ e) p (size ρ) → (actor e ≡ v) ⊎ ((t : ℕ) × (e ≡ Start t v))
    → Known (ρ ▸ e) p v
known_latest ρ e b s = record { via = size ρ; what = e; is = latest ρ e; after = inr b; own = s }

-- An event leads on from a number below the next one.
pub out_below : (ρ : Recording) → Accepted ρ → {σ : Recording} {a : Event} → (σ ▸ a) ⊑ ρ → out σ a < next ρ
out_below ρ acc {σ} {a} h = let k = next_grows h in let l = first a in omega arith
  where
    up : (v : ℕ) → segment σ v < next σ
    up = (numbered σ (accepted_init (⊑_init h) acc)).below

    first : (b : Event) → out σ b < next (σ ▸ b)
    first (Lock t o) = up t
    first (Release t o) = up t
    first (Start t u) = omega (arith, up t)
    first (Join t u) = omega arith

-- The segment of a live thread leads to that of no other.
leads_to_self : (ρ : Recording) → Accepted ρ → (t v : ℕ) → life ρ t ≡ live → Born ρ v
    → Reaches (arrows ρ) (segment ρ t) (segment ρ v) → t ≡ v
leads_to_self ρ acc t v l b (inl e) = (numbered ρ acc).distinct t v (live_born ρ t l) b e
leads_to_self ρ acc t v l b (inr p) = let m = first_arrow p in absurd ((numbered ρ acc).leaf t (segment ρ t) m.0 l refl m.1)

no_event : {σ : Recording} {a : Event} → (σ ▸ a) ⊑ none → ⊥
no_event h = let k = ⊑_size h in omega arith

module _ (ρ : Recording) (acc : Accepted ρ) where
  up : (v : ℕ) → segment ρ v < next ρ
  up = (numbered ρ acc).below

  -- The claim for an older event, from the same claim before the latest one.
  module _ (p x : ℕ) (k : x < next ρ) (ih : (w : ℕ) → Born ρ w → Reaches (arrows ρ) x (segment ρ w) → Known ρ p w) where
    older_start : (t u : ℕ) → Allowed ρ (Start t u) → (v : ℕ) → Born (ρ ▸ Start t u) v
        → Reaches (arrows (ρ ▸ Start t u)) x (segment (ρ ▸ Start t u) v) → Known (ρ ▸ Start t u) p v
    older_start t u al v b = on_start ρ t u v (λ z. Reaches (arrows (ρ ▸ Start t u)) x z → Known (ρ ▸ Start t u) p v)
        (λ e r. known_latest ρ (Start t u) (told r (omega arith)) (inl (sym e)))
        (λ e r. known_latest ρ (Start t u) (told r (omega arith)) (inr (t, ap (Start t) (sym e))))
        (λ nt nu r. known_stays ρ (Start t u) (ih v (λ z. b (life_start_other ρ t u v nu ∙ z)) (reach_old ρ (Start t u) acc (up v) r)))
      where
        told : {z : ℕ} → Reaches (arrows (ρ ▸ Start t u)) x z → next ρ ≤ z → Before (ρ ▸ Start t u) p (size ρ)
        told r l = known_acts ρ (Start t u) (ih t (live_born ρ t al.2) (start_new ρ acc t u k l r)) refl

    older_join : (t u : ℕ) → Allowed ρ (Join t u) → (v : ℕ) → Born (ρ ▸ Join t u) v
        → Reaches (arrows (ρ ▸ Join t u)) x (segment (ρ ▸ Join t u) v) → Known (ρ ▸ Join t u) p v
    older_join t u al v b = on_join ρ t u v (λ z. Reaches (arrows (ρ ▸ Join t u)) x z → Known (ρ ▸ Join t u) p v)
        (λ e r. known_latest ρ (Join t u) (told r) (inl (sym e)))
        (λ nt r. known_stays ρ (Join t u) (ih v (born_before ρ t u al v b) (reach_old ρ (Join t u) acc (up v) r)))
      where
        told : Reaches (arrows (ρ ▸ Join t u)) x (next ρ) → Before (ρ ▸ Join t u) p (size ρ)
        told r =
            ⊎_elim (λ a. known_acts ρ (Join t u) (ih t (live_born ρ t al.2) a) refl)
            (λ a. known_joins ρ t u (ih u al.4 a)) (join_new ρ acc t u k (omega arith) r)

    older : (e : Event) → Allowed ρ e → (v : ℕ) → Born (ρ ▸ e) v → Reaches (arrows (ρ ▸ e)) x (segment (ρ ▸ e) v) → Known (ρ ▸ e) p v
    older (Lock t o) al v b r = known_stays ρ (Lock t o) (ih v b r)
    older (Release t o) al v b r = known_stays ρ (Release t o) (ih v b r)
    older (Start t u) al v b r = older_start t u al v b r
    older (Join t u) al v b r = older_join t u al v b r

  -- The claim for the latest event.
  newest : (e : Event) → Allowed ρ e → (v : ℕ) → Born (ρ ▸ e) v → Reaches (arrows (ρ ▸ e)) (out ρ e) (segment (ρ ▸ e) v)
      → Known (ρ ▸ e) (size ρ) v
  newest (Lock t o) al v b r = known_self ρ (Lock t o) (inl (leads_to_self ρ acc t v al.2 b r))
  newest (Release t o) al v b r = known_self ρ (Release t o) (inl (leads_to_self ρ acc t v al.2 b r))
  newest (Start t u) al v b r =
      on_start ρ t u v (λ z. Reaches (arrows (ρ ▸ Start t u)) (segment ρ t) z → Known (ρ ▸ Start t u) (size ρ) v)
      (λ e q. known_self ρ (Start t u) (inl (sym e)))
      (λ e q. known_self ρ (Start t u) (inr (t, ap (Start t) (sym e))))
      (λ nt nu q. known_self ρ (Start t u) (inl
      (leads_to_self ρ acc t v al.2 (λ z. b (life_start_other ρ t u v nu ∙ z)) (reach_old ρ (Start t u) acc (up v) q))))
      r
  newest (Join t u) al v b r = on_join ρ t u v (λ z. Reaches (arrows (ρ ▸ Join t u)) (next ρ) z → Known (ρ ▸ Join t u) (size ρ) v)
      (λ e q. known_self ρ (Join t u) (inl (sym e)))
      (λ nt q. absurd (none_leads (reach_old ρ (Join t u) acc (up v) q)))
      r
    where
      none_leads : Reaches (arrows ρ) (next ρ) (segment ρ v) → ⊥
      none_leads (inl e) = omega (arith, up v)
      none_leads (inr p) = omega (arith, path_rises ρ acc p)

-- An event from which a thread's segment can be reached is known to the thread.
pub knows : (ρ : Recording) → Accepted ρ → {σ : Recording} {a : Event} → (σ ▸ a) ⊑ ρ → (v : ℕ) → Born ρ v
    → Reaches (arrows ρ) (out σ a) (segment ρ v) → Known ρ (size σ) v
knows none acc h v b r = absurd (no_event h)
knows (ρ ▸ e) acc {σ} {a} h v b r =
    ⊎_elim new (λ m. older ρ acc.0 (size σ) (out σ a) (out_below ρ acc.0 m) (knows ρ acc.0 m) e acc.1 v b r)
    (⊑_cases h)
  where
    same : (σ ▸ a) ≡ (ρ ▸ e) → out σ a ≡ out ρ e
    same q = ap₂ out (▸_left q) (▸_right q)

    new : (σ ▸ a) ≡ (ρ ▸ e) → Known (ρ ▸ e) (size σ) v
    new q =
        subst (λ n. Known (ρ ▸ e) n v) (ap size (sym (▸_left q)))
        (newest ρ acc.0 e acc.1 v b (reach_reach (inl (sym (same q))) r))
