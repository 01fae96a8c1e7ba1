-- How the threads move from segment to segment, and that events which come before others do so along the arrows.
-- Assumes nothing.
use Rattle.std.proofs.Common.{◌≡◌, ℕ, ◌<◌, ◌⊎◌, sym, refl, ap, ◌∙◌, subst, inl, inr, ⊎_elim, arith}
use mathlib.Core.List.{Memᴰ}
use Rattle.rows.specs.declared.event.Event.{Event}
use Rattle.rows.specs.declared.event.Event.TheVariants.{Lock, Release, Start, Join}
use Rattle.recording.specs.Recording.{Recording, ◌▸◌, actor, Before, in_thread, start_acts, start_join, acts_join, over}
use Rattle.order.specs.Arrows.{arrow, Path⁺, one}
use Rattle.recording.specs.Segments.{next, segment, arrows, Precedes}
use Rattle.recording.specs.Ledger.{live, life, Allowed, Accepted}
use Rattle.recording.proofs.Prefixes.{
  ◌⊑◌,
  now,
  later,
  ⊑_size,
  ⊑_trans,
  ⊑_init,
  ⊑_shorter,
  ⊑_order,
  ▸_right,
  accepted_init,
  read,
  read_at,
  Found,
  found,
}
use Rattle.recording.proofs.Paths.{Reaches, wider, path_path, reach_path, path_reach, reach_reach}
use Rattle.recording.proofs.Lives.{
  Born,
  live_born,
  actor_live,
  stays_born,
  still_born,
  stays_joined,
  life_joined,
  live≢joined,
  live≢unborn,
  life_started,
}
use Rattle.recording.proofs.Numbering.{on_start, on_join, segment_starter, segment_started, segment_joiner}

arrows_more : (ρ : Recording) (e : Event) (x y : ℕ) → Memᴰ (arrow x y) (arrows ρ) → Memᴰ (arrow x y) (arrows (ρ ▸ e))
arrows_more ρ (Lock t o) x y m = m
arrows_more ρ (Release t o) x y m = m
arrows_more ρ (Start t u) x y m = Memᴰ.tail (Memᴰ.tail m)
arrows_more ρ (Join t u) x y m = Memᴰ.tail (Memᴰ.tail m)

-- Arrows stay.
pub arrows_stay : {σ ρ : Recording} → σ ⊑ ρ → (x y : ℕ) → Memᴰ (arrow x y) (arrows σ) → Memᴰ (arrow x y) (arrows ρ)
arrows_stay (now p) x y m = subst (λ r. Memᴰ (arrow x y) (arrows r)) p m
arrows_stay (later {ρ} {e} h) x y m = arrows_more ρ e x y (arrows_stay h x y m)

pub precedes_stays : {σ ρ : Recording} {x y : ℕ} → σ ⊑ ρ → Path⁺ (arrows σ) x y → Path⁺ (arrows ρ) x y
precedes_stays h p = wider (arrows_stay h) p

pub reaches_stays : {σ ρ : Recording} {x y : ℕ} → σ ⊑ ρ → Reaches (arrows σ) x y → Reaches (arrows ρ) x y
reaches_stays h (inl e) = inl e
reaches_stays h (inr p) = inr (precedes_stays h p)

move : (ρ : Recording) (e : Event) → Allowed ρ e → (v : ℕ) → Born ρ v → Reaches (arrows (ρ ▸ e)) (segment ρ v) (segment (ρ ▸ e) v)
move ρ (Lock t o) al v b = inl refl
move ρ (Release t o) al v b = inl refl
move ρ (Start t u) al v b =
    on_start ρ t u v (λ x. Reaches (arrows (ρ ▸ Start t u)) (segment ρ v) x)
    (λ e. inr (one (Memᴰ.head (ap (λ w. arrow (segment ρ w) (next ρ)) e)))) (λ e. absurd (b (ap (life ρ) e ∙ al.3)))
    (λ n m. inl refl)
move ρ (Join t u) al v b =
    on_join ρ t u v (λ x. Reaches (arrows (ρ ▸ Join t u)) (segment ρ v) x)
    (λ e. inr (one (Memᴰ.head (ap (λ w. arrow (segment ρ w) (next ρ)) e)))) (λ n. inl refl)

-- A thread moves along arrows.
pub moves : {σ ρ : Recording} → σ ⊑ ρ → Accepted ρ → (v : ℕ) → Born σ v → Reaches (arrows ρ) (segment σ v) (segment ρ v)
moves (now p) acc v b = inl (ap (λ r. segment r v) p)
moves (later {ρ} {e} h) acc v b =
    reach_reach (reaches_stays {σ = ρ} (later (now refl)) (moves h acc.0 v b)) (move ρ e acc.1 v (stays_born v h b))

-- The segment from which what comes after an event goes on.
abbrev pub out : Recording → Event → ℕ
out ρ (Lock t o) = segment ρ t
out ρ (Release t o) = segment ρ t
out ρ (Start t u) = segment ρ t
out ρ (Join t u) = next ρ

to_out : (ρ : Recording) (a : Event) → Reaches (arrows (ρ ▸ a)) (segment ρ (actor a)) (out ρ a)
to_out ρ (Lock t o) = inl refl
to_out ρ (Release t o) = inl refl
to_out ρ (Start t u) = inl refl
to_out ρ (Join t u) = inr (one (Memᴰ.head refl))

from_out : (ρ : Recording) (a : Event) → Reaches (arrows (ρ ▸ a)) (out ρ a) (segment (ρ ▸ a) (actor a))
from_out ρ (Lock t o) = inl refl
from_out ρ (Release t o) = inl refl
from_out ρ (Start t u) = inr (one (Memᴰ.head (ap (arrow (segment ρ t)) (segment_starter ρ t u))))
from_out ρ (Join t u) = inl (sym (segment_joiner ρ t u))

abbrev pub out_at : Recording → ℕ → ℕ
out_at ρ p = read out 0 ρ p

abbrev pub actor_at : Recording → ℕ → ℕ
actor_at ρ p = read (λ r a. actor a) 0 ρ p

-- How two events can stand to one another along the arrows.
abbrev pub Follows : Recording → ℕ → ℕ → ℕ → ℕ → Type 0
Follows ρ x t y u = Precedes ρ x y ⊎ ((x ≡ y) × (t ≡ u))

abbrev pub Comes : Recording → ℕ → ℕ → Type 0
Comes ρ p q = (p < q) × Follows ρ (out_at ρ p) (actor_at ρ p) (out_at ρ q) (actor_at ρ q)

follows_follows : (ρ : Recording) {x y z t u v : ℕ} → Follows ρ x t y u → Follows ρ y u z v → Follows ρ x t z v
follows_follows ρ (inl p) (inl q) = inl (path_path p q)
follows_follows ρ (inl p) (inr e) = inl (path_reach p (inl e.0))
follows_follows ρ (inr d) (inl q) = inl (reach_path (inl d.0) q)
follows_follows ρ (inr d) (inr e) = inr (d.0 ∙ e.0, d.1 ∙ e.1)

pub comes_comes : (ρ : Recording) {p q r : ℕ} → Comes ρ p q → Comes ρ q r → Comes ρ p r
comes_comes ρ c d = (omega arith, follows_follows ρ c.1 d.1)

start≢join : {t u v w : ℕ} → Start t u ≡ Join v w → ⊥
start≢join p = let z : ◌≡◌ {A = ℕ} 0 1 = cc in omega arith

module _ (ρ : Recording) (acc : Accepted ρ) where
  allowed : {σ : Recording} {a : Event} → (σ ▸ a) ⊑ ρ → Allowed σ a
  allowed h = (accepted_init h acc).1

  pub acts_live : {σ : Recording} {a : Event} → (σ ▸ a) ⊑ ρ → life σ (actor a) ≡ live
  acts_live {σ} {a} h = actor_live σ a (allowed h)

  -- From an event to where its thread is later.
  goes_on : {σ τ : Recording} {a : Event} → (σ ▸ a) ⊑ τ → τ ⊑ ρ → Reaches (arrows ρ) (out σ a) (segment τ (actor a))
  goes_on {σ} {τ} {a} h k =
      reaches_stays k (reach_reach (reaches_stays h (from_out σ a))
      (moves h (accepted_init k acc) (actor a) (still_born σ a (actor a) (live_born σ (actor a) (acts_live (⊑_trans h k))))))

  comes_to : {τ : Recording} {b : Event} → (τ ▸ b) ⊑ ρ → Reaches (arrows ρ) (segment τ (actor b)) (out τ b)
  comes_to {τ} {b} k = reaches_stays k (to_out τ b)

  comes_to_join : {τ : Recording} {v u : ℕ} → (τ ▸ Join v u) ⊑ ρ → Precedes ρ (segment τ u) (next τ)
  comes_to_join k = precedes_stays k (one (Memᴰ.tail (Memᴰ.head refl)))

  -- From a Start to where the started thread is later.
  begins : {σ τ : Recording} {t u : ℕ} → (σ ▸ Start t u) ⊑ τ → τ ⊑ ρ → Precedes ρ (segment σ t) (segment τ u)
  begins {σ} {τ} {t} {u} h k = path_reach
      (precedes_stays (⊑_trans h k) (one (Memᴰ.tail (Memᴰ.head (ap (arrow (segment σ t)) (segment_started σ t u other))))))
      (reaches_stays k (moves h (accepted_init k acc) u (live_born (σ ▸ Start t u) u (life_started σ t u))))
    where
      other : u ≡ t → ⊥
      other e = let al = allowed (⊑_trans h k) in live≢unborn (sym al.2 ∙ (ap (life σ) (sym e) ∙ al.3))

  -- The order of the two events in each direct case.
  start_first : {σ τ : Recording} {t : ℕ} {b : Event} → (σ ▸ Start t (actor b)) ⊑ ρ → (τ ▸ b) ⊑ ρ → (σ ▸ Start t (actor b)) ⊑ τ
  start_first {σ} {τ} {t} {b} g h = ⊎_elim (λ m. m) (λ r. absurd (⊎_elim equal after r)) (⊑_order g h)
    where
      al : Allowed σ (Start t (actor b))
      al = allowed g

      equal : (σ ▸ Start t (actor b)) ≡ (τ ▸ b) → ⊥
      equal e = live≢unborn (sym al.2 ∙ (ap (λ x. life σ (actor x)) (▸_right e) ∙ al.3))

      after : (τ ▸ b) ⊑ σ → ⊥
      after m = stays_born (actor b) (⊑_init m) (live_born τ (actor b) (acts_live h)) al.3

  join_after_start : {σ τ : Recording} {t v u : ℕ} → (σ ▸ Start t u) ⊑ ρ → (τ ▸ Join v u) ⊑ ρ → (σ ▸ Start t u) ⊑ τ
  join_after_start {σ} {τ} {t} {v} {u} g h = ⊎_elim (λ m. m) (λ r. absurd (⊎_elim (λ e. start≢join (▸_right e)) after r)) (⊑_order g h)
    where
      after : (τ ▸ Join v u) ⊑ σ → ⊥
      after m = stays_born u (⊑_init m) (allowed h).4 (allowed g).3

  join_last : {σ τ : Recording} {v : ℕ} {a : Event} → (σ ▸ a) ⊑ ρ → (τ ▸ Join v (actor a)) ⊑ ρ → (σ ▸ a) ⊑ τ
  join_last {σ} {τ} {v} {a} g h = ⊎_elim (λ m. m) (λ r. absurd (⊎_elim equal after r)) (⊑_order g h)
    where
      equal : (σ ▸ a) ≡ (τ ▸ Join v (actor a)) → ⊥
      equal e = (allowed h).3 (ap actor (▸_right e))

      after : (τ ▸ Join v (actor a)) ⊑ σ → ⊥
      after m = live≢joined (sym (acts_live g) ∙ stays_joined (actor a) m (accepted_init (⊑_init g) acc) (life_joined τ v (actor a)))

  settle : {p q : ℕ} {a b : Event} (f : Found ρ p a) (g : Found ρ q b) → (f.before ▸ a) ⊑ g.before
      → Follows ρ (out f.before a) (actor a) (out g.before b) (actor b) → Comes ρ p q
  settle {p} {q} {a} {b} f g h k = (
    earlier,
    follows_follows ρ (same (at_out f) (at_actor f))
        (follows_follows ρ k (same (sym (at_out g)) (sym (at_actor g)))),
  )
    where
      earlier : p < q
      earlier = omega (arith, ⊑_size h, f.place, g.place)

      same : {x y t u : ℕ} → x ≡ y → t ≡ u → Follows ρ x t y u
      same d e = inr (d, e)

      at_out : {r : ℕ} {c : Event} (w : Found ρ r c) → out_at ρ r ≡ out w.before c
      at_out w = ap (out_at ρ) (sym w.place) ∙ read_at out 0 w.is

      at_actor : {r : ℕ} {c : Event} (w : Found ρ r c) → actor_at ρ r ≡ actor c
      at_actor w = ap (actor_at ρ) (sym w.place) ∙ read_at (λ _ x. actor x) 0 w.is

  -- What comes before comes earlier, and along the arrows or in the same segment of the same thread.
  pub comes : {p q : ℕ} → Before ρ p q → Comes ρ p q
  comes (in_thread {p} {q} {a} {b} ea eb s k) = settle f g h (⊎_elim (λ e. inr (e, s)) inl way)
    where
      f : Found ρ p a
      f = found ρ ea

      g : Found ρ q b
      g = found ρ eb

      h : (f.before ▸ a) ⊑ g.before
      h = ⊑_shorter f.is (⊑_init g.is) (omega (arith, f.place, g.place))

      way : Reaches (arrows ρ) (out f.before a) (out g.before b)
      way =
          reach_reach (subst (λ v. Reaches (arrows ρ) (out f.before a) (segment g.before v)) s
          (goes_on h (⊑_init g.is))) (comes_to g.is)
  comes (start_acts {b = b} ea eb) =
      let f = found ρ ea in
      let g = found ρ eb in
      let h = start_first f.is g.is in
      settle f g h (inl (path_reach (begins h (⊑_init g.is)) (comes_to g.is)))
  comes (start_join ea eb) =
      let f = found ρ ea in
      let g = found ρ eb in
      let h = join_after_start f.is g.is in
      settle f g h (inl (path_path (begins h (⊑_init g.is)) (comes_to_join g.is)))
  comes (acts_join ea eb) =
      let f = found ρ ea in
      let g = found ρ eb in
      let h = join_last f.is g.is in
      settle f g h (inl (reach_path (goes_on h (⊑_init g.is)) (comes_to_join g.is)))
  comes (over x y) = comes_comes ρ (comes x) (comes y)
