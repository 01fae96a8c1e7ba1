-- How the segments of an accepted recording are numbered.
-- Assumes nothing.
use Rattle.std.proofs.Common.{◌≡◌, ℕ, ◌+◌, ◌<◌, ◌≤◌, cond, eqb, ◌⊎◌, List, ◌∷◌, sym, refl, ap, ◌∙◌, inl, inr, ⊎_elim, arith}
use mathlib.Core.List.Memᴰ
use mathlib.Core.List.{Memᴰ}
use Rattle.std.proofs.lemmas.Bool.{cond-true, cond-false, cond_both, eq-eqb, ne_eqb, eqb-true, eqb-false, cases_eq}
use Rattle.rows.specs.declared.event.Event.TheVariants.{Lock, Release, Start, Join}
use Rattle.recording.specs.Recording.{Recording, none, ◌▸◌}
use Rattle.order.specs.Arrows.{Arrow, arrow}
use Rattle.recording.specs.Segments.{next, segment, arrows}
use Rattle.recording.specs.Ledger.{unborn, live, life, Allowed, Accepted}
use Rattle.recording.proofs.Paths.{LeavesBelow, Layered, arrow_cases}
use Rattle.recording.proofs.Lives.{Born, live_born, life_start_other, life_join_other, life_joined, live≢joined}

pub segment_starter : (ρ : Recording) (t u : ℕ) → segment (ρ ▸ Start t u) t ≡ next ρ
segment_starter ρ t u = cond-true (eqb t t) (next ρ) (cond (eqb t u) (next ρ + 1) (segment ρ t)) (eq-eqb t t refl)

pub segment_started : (ρ : Recording) (t u : ℕ) → (u ≡ t → ⊥) → segment (ρ ▸ Start t u) u ≡ next ρ + 1
segment_started ρ t u ne =
    cond-false (eqb u t) (next ρ) (cond (eqb u u) (next ρ + 1) (segment ρ u)) (ne_eqb u t ne) ∙ cond-true (eqb u u) (next ρ + 1)
    (segment ρ u) (eq-eqb u u refl)

pub segment_joiner : (ρ : Recording) (t u : ℕ) → segment (ρ ▸ Join t u) t ≡ next ρ
segment_joiner ρ t u = cond-true (eqb t t) (next ρ) (segment ρ t) (eq-eqb t t refl)

-- A thread's segment after a Start, by cases.
pub on_start : (ρ : Recording) (t u v : ℕ) (P : ℕ → Type 0) → (v ≡ t → P (next ρ)) → (v ≡ u → P (next ρ + 1))
    → ((v ≡ t → ⊥) → (v ≡ u → ⊥) → P (segment ρ v)) → P (segment (ρ ▸ Start t u) v)
on_start ρ t u v P f g h =
    cond_both (eqb v t) (next ρ) (cond (eqb v u) (next ρ + 1) (segment ρ v)) P (λ e. f (eqb-true v t e))
    (λ n. cond_both (eqb v u) (next ρ + 1) (segment ρ v) P (λ e. g (eqb-true v u e))
    (λ m. h (eqb-false v t n) (eqb-false v u m)))

-- A thread's segment after a Join, by cases.
pub on_join : (ρ : Recording) (t u v : ℕ) (P : ℕ → Type 0) → (v ≡ t → P (next ρ)) → ((v ≡ t → ⊥) → P (segment ρ v))
    → P (segment (ρ ▸ Join t u) v)
on_join ρ t u v P f h = cond_both (eqb v t) (next ρ) (segment ρ v) P (λ e. f (eqb-true v t e)) (λ n. h (eqb-false v t n))

pub record Numbered (ρ : Recording) : Type 0 where
  pub below : (v : ℕ) → segment ρ v < next ρ
  pub rising : (x y : ℕ) → Memᴰ (arrow x y) (arrows ρ) → (x < y) × (y < next ρ)
  -- Born threads are in segments of their own.
  pub distinct : (v w : ℕ) → Born ρ v → Born ρ w → segment ρ v ≡ segment ρ w → v ≡ w
  -- No arrow leaves the segment of a live thread.
  pub leaf : (v x y : ℕ) → life ρ v ≡ live → x ≡ segment ρ v → Memᴰ (arrow x y) (arrows ρ) → ⊥

-- Who is born after a Join was so before.
pub born_before : (ρ : Recording) (t u : ℕ) → Allowed ρ (Join t u) → (v : ℕ) → Born (ρ ▸ Join t u) v → Born ρ v
born_before ρ t u al v b = ⊎_elim (λ q e. al.4 (ap (life ρ) (sym q) ∙ e)) (λ ne e. b (life_join_other ρ t u v ne ∙ e)) (cases_eq v u)

module _ (ρ : Recording) (known : Numbered ρ) (t u : ℕ) where
  module _ (al : Allowed ρ (Start t u)) where
    was_born : (v : ℕ) → (v ≡ u → ⊥) → Born (ρ ▸ Start t u) v → Born ρ v
    was_born v ne b e = b (life_start_other ρ t u v ne ∙ e)

    start_distinct : (v w : ℕ) → Born (ρ ▸ Start t u) v → Born (ρ ▸ Start t u) w
        → segment (ρ ▸ Start t u) v ≡ segment (ρ ▸ Start t u) w → v ≡ w
    start_distinct v w bv bw = on_start ρ t u v (λ x. x ≡ segment (ρ ▸ Start t u) w → v ≡ w)
        (λ a. on_start ρ t u w (λ y. next ρ ≡ y → v ≡ w) (λ b e. omega arith) (λ b e. omega arith)
        (λ n m e. omega (arith, known.below w)))
        (λ a. on_start ρ t u w (λ y. next ρ + 1 ≡ y → v ≡ w) (λ b e. omega arith) (λ b e. omega arith)
        (λ n m e. omega (arith, known.below w)))
        (λ nv mv. on_start ρ t u w (λ y. segment ρ v ≡ y → v ≡ w) (λ b e. omega (arith, known.below v))
        (λ b e. omega (arith, known.below v)) (λ n m e. known.distinct v w (was_born v mv bv) (was_born w m bw) e))

    start_leaf : (v x y : ℕ) → life (ρ ▸ Start t u) v ≡ live → x ≡ segment (ρ ▸ Start t u) v
        → Memᴰ (arrow x y) (arrows (ρ ▸ Start t u)) → ⊥
    start_leaf v x y l q m = on_start ρ t u v (λ z. x ≡ z → ⊥)
        (λ a e. low (omega arith) (arrow_cases m))
        (λ a e. low (omega arith) (arrow_cases m))
        (λ nt nu e. other nt (sym (life_start_other ρ t u v nu) ∙ l) e (arrow_cases m))
        q
      where
        old : next ρ ≤ x → Memᴰ (arrow x y) (arrows ρ) → ⊥
        old k p = omega (arith, known.rising x y p)

        low : next ρ ≤ x → ((x ≡ segment ρ t) × (y ≡ next ρ)) ⊎ Memᴰ (arrow x y) (arrow (segment ρ t) (next ρ + 1) ∷ arrows ρ) → ⊥
        low k (inl e) = omega (arith, known.below t)
        low k (inr p) = ⊎_elim (λ e. omega (arith, known.below t, e.0)) (old k) (arrow_cases p)

        same : (v ≡ t → ⊥) → life ρ v ≡ live → x ≡ segment ρ v → x ≡ segment ρ t → ⊥
        same nt lv e f = nt (known.distinct v t (live_born ρ v lv) (live_born ρ t al.2) (sym e ∙ f))

        other : (v ≡ t → ⊥) → life ρ v ≡ live → x ≡ segment ρ v
            → ((x ≡ segment ρ t) × (y ≡ next ρ)) ⊎ Memᴰ (arrow x y) (arrow (segment ρ t) (next ρ + 1) ∷ arrows ρ) → ⊥
        other nt lv e (inl f) = same nt lv e f.0
        other nt lv e (inr p) = ⊎_elim (λ f. same nt lv e f.0) (known.leaf v x y lv e) (arrow_cases p)

    start_numbered : Numbered (ρ ▸ Start t u)
    start_numbered = record {
      below = λ v. on_start ρ t u v (λ x. x < next ρ + 2) (λ e. omega arith) (λ e. omega arith) (λ n m. omega (arith, known.below v));
      rising =
          λ x y m. ⊎_elim (λ e. omega (arith, known.below t, e.0, e.1))
          (λ p. ⊎_elim (λ e. omega (arith, known.below t, e.0, e.1)) (λ k. omega (arith, known.rising x y k))
          (arrow_cases p)) (arrow_cases m);
      distinct = start_distinct;
      leaf = start_leaf;
    }

  module _ (al : Allowed ρ (Join t u)) where
    join_distinct : (v w : ℕ) → Born (ρ ▸ Join t u) v → Born (ρ ▸ Join t u) w
        → segment (ρ ▸ Join t u) v ≡ segment (ρ ▸ Join t u) w → v ≡ w
    join_distinct v w bv bw = on_join ρ t u v (λ x. x ≡ segment (ρ ▸ Join t u) w → v ≡ w)
        (λ a. on_join ρ t u w (λ y. next ρ ≡ y → v ≡ w) (λ b e. omega arith) (λ n e. omega (arith, known.below w)))
        (λ nv. on_join ρ t u w (λ y. segment ρ v ≡ y → v ≡ w) (λ b e. omega (arith, known.below v))
        (λ n e. known.distinct v w (born_before ρ t u al v bv) (born_before ρ t u al w bw) e))

    join_leaf : (v x y : ℕ) → life (ρ ▸ Join t u) v ≡ live → x ≡ segment (ρ ▸ Join t u) v
        → Memᴰ (arrow x y) (arrows (ρ ▸ Join t u)) → ⊥
    join_leaf v x y l q m = on_join ρ t u v (λ z. x ≡ z → ⊥)
        (λ a e. low (omega arith) (arrow_cases m))
        (λ nt e. other nt (sym (life_join_other ρ t u v not_u) ∙ l) e (arrow_cases m))
        q
      where
        not_u : v ≡ u → ⊥
        not_u e = live≢joined (sym l ∙ (ap (life (ρ ▸ Join t u)) e ∙ life_joined ρ t u))

        low : next ρ ≤ x → ((x ≡ segment ρ t) × (y ≡ next ρ)) ⊎ Memᴰ (arrow x y) (arrow (segment ρ u) (next ρ) ∷ arrows ρ) → ⊥
        low k (inl e) = omega (arith, known.below t)
        low k (inr p) = ⊎_elim (λ e. omega (arith, known.below u, e.0)) (λ r. omega (arith, known.rising x y r)) (arrow_cases p)

        other : (v ≡ t → ⊥) → life ρ v ≡ live → x ≡ segment ρ v
            → ((x ≡ segment ρ t) × (y ≡ next ρ)) ⊎ Memᴰ (arrow x y) (arrow (segment ρ u) (next ρ) ∷ arrows ρ) → ⊥
        other nt lv e (inl f) = nt (known.distinct v t (live_born ρ v lv) (live_born ρ t al.2) (sym e ∙ f.0))
        other nt lv e (inr p) =
            ⊎_elim (λ f. not_u (known.distinct v u (live_born ρ v lv) al.4 (sym e ∙ f.0))) (known.leaf v x y lv e)
            (arrow_cases p)

    join_numbered : Numbered (ρ ▸ Join t u)
    join_numbered = record {
      below = λ v. on_join ρ t u v (λ x. x < next ρ + 1) (λ e. omega arith) (λ n. omega (arith, known.below v));
      rising =
          λ x y m. ⊎_elim (λ e. omega (arith, known.below t, e.0, e.1))
          (λ p. ⊎_elim (λ e. omega (arith, known.below u, e.0, e.1)) (λ k. omega (arith, known.rising x y k))
          (arrow_cases p)) (arrow_cases m);
      distinct = join_distinct;
      leaf = join_leaf;
    }

none_born : (v : ℕ) → Born none v → v ≡ 0
none_born v b = ⊎_elim (λ e. e) (λ n. absurd (b (cond-false (eqb v 0) live unborn (ne_eqb v 0 n)))) (cases_eq v 0)

pub numbered : (ρ : Recording) → Accepted ρ → Numbered ρ
numbered none acc = record {
  below = λ v. omega arith;
  rising = λ x y m. absurd (Memᴰ.not-nil m);
  distinct = λ v w bv bw e. none_born v bv ∙ sym (none_born w bw);
  leaf = λ v x y l e m. Memᴰ.not-nil m;
}
numbered (ρ ▸ Lock t o) acc =
    let k = numbered ρ acc.0 in record { below = k.below; rising = k.rising; distinct = k.distinct; leaf = k.leaf }
numbered (ρ ▸ Release t o) acc =
    let k = numbered ρ acc.0 in record { below = k.below; rising = k.rising; distinct = k.distinct; leaf = k.leaf }
numbered (ρ ▸ Start t u) acc = start_numbered ρ (numbered ρ acc.0) t u acc.1
numbered (ρ ▸ Join t u) acc = join_numbered ρ (numbered ρ acc.0) t u acc.1

pub leaves_below : (ρ : Recording) → Accepted ρ → (n : ℕ) → next ρ ≤ n → LeavesBelow n (arrows ρ)
leaves_below ρ acc n k x y m = omega (arith, (numbered ρ acc).rising x y m)

-- One more arrow that leaves a number below n.
pub leaves_below_more : {L : List Arrow} {n : ℕ} (s z : ℕ) → s < n → LeavesBelow n L → LeavesBelow n (arrow s z ∷ L)
leaves_below_more {n = n} s z k low x y m = ⊎_elim (λ e. omega (arith, e.0)) (low x y) (arrow_cases m)

pub layered : (ρ : Recording) → Accepted ρ → Layered (arrows ρ)
layered none acc = tt
layered (ρ ▸ Lock t o) acc = layered ρ acc.0
layered (ρ ▸ Release t o) acc = layered ρ acc.0
layered (ρ ▸ Start t u) acc =
    let k = (numbered ρ acc.0).below t in (
      k,
      leaves_below_more (segment ρ t) (next ρ + 1) k (leaves_below ρ acc.0 (next ρ) (omega arith)),
      (omega arith, leaves_below ρ acc.0 (next ρ + 1) (omega arith), layered ρ acc.0),
    )
layered (ρ ▸ Join t u) acc =
    let b = (numbered ρ acc.0).below in (
      b t,
      leaves_below_more (segment ρ u) (next ρ) (b u) (leaves_below ρ acc.0 (next ρ) (omega arith)),
      (b u, leaves_below ρ acc.0 (next ρ) (omega arith), layered ρ acc.0),
    )
