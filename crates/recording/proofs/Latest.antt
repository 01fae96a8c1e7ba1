-- What the latest event adds to the paths of arrows.
-- Assumes nothing.
use Rattle.std.proofs.Common.{ℕ, ◌+◌, ◌<◌, ◌≤◌, ◌⊎◌, ◌∷◌, sym, ap, subst, inl, inr, ⊎_elim, arith}
use Rattle.rows.specs.declared.event.Event.{Event}
use Rattle.rows.specs.declared.event.Event.TheVariants.{Lock, Release, Start, Join}
use Rattle.recording.specs.Recording.{Recording, ◌▸◌}
use Rattle.order.specs.Arrows.{arrow, Path⁺, one, more}
use Rattle.recording.specs.Segments.{next, segment, arrows}
use Rattle.recording.specs.Ledger.{Accepted}
use Rattle.recording.proofs.Prefixes.{◌⊑◌, now, later}
use Rattle.recording.proofs.Paths.{Reaches, LeavesBelow, last_new, without_new, reach_without_new}
use Rattle.recording.proofs.Numbering.{numbered, leaves_below, leaves_below_more}

next_more : (ρ : Recording) (e : Event) → next ρ ≤ next (ρ ▸ e)
next_more ρ (Lock t o) = omega arith
next_more ρ (Release t o) = omega arith
next_more ρ (Start t u) = omega arith
next_more ρ (Join t u) = omega arith

pub next_grows : {σ ρ : Recording} → σ ⊑ ρ → next σ ≤ next ρ
next_grows (now p) = let q = ap next p in omega arith
next_grows (later {ρ} {e} h) = let k = next_grows h in let l = next_more ρ e in omega arith

-- Paths go up, and stay below the next number.
pub path_rises : (ρ : Recording) → Accepted ρ → {x y : ℕ} → Path⁺ (arrows ρ) x y → (x < y) × (y < next ρ)
path_rises ρ acc (one m) = (numbered ρ acc).rising _ _ m
path_rises ρ acc (more m p) = let k = (numbered ρ acc).rising _ _ m in let l = path_rises ρ acc p in (omega arith, l.1)

module _ (ρ : Recording) (acc : Accepted ρ) (t u : ℕ) where
  low : (n : ℕ) → next ρ ≤ n → LeavesBelow n (arrows ρ)
  low = leaves_below ρ acc

  up : (v : ℕ) → segment ρ v < next ρ
  up = (numbered ρ acc).below

  -- Below the newest arrow of a Start or a Join, too, every arrow leaves an old number.
  low_start : LeavesBelow (next ρ) (arrow (segment ρ t) (next ρ + 1) ∷ arrows ρ)
  low_start = leaves_below_more (segment ρ t) (next ρ + 1) (up t) (low (next ρ) (omega arith))

  low_join : LeavesBelow (next ρ) (arrow (segment ρ u) (next ρ) ∷ arrows ρ)
  low_join = leaves_below_more (segment ρ u) (next ρ) (up u) (low (next ρ) (omega arith))

  up_start : segment ρ t < next ρ + 1
  up_start = omega (arith, up t)

  -- What leads to a segment that a Start makes leads to where the starter was.
  pub start_new : {x z : ℕ} → x < next ρ → next ρ ≤ z → Reaches (arrows (ρ ▸ Start t u)) x z → Reaches (arrows ρ) x (segment ρ t)
  start_new k l (inl e) = absurd (omega arith)
  start_new {x} {z} k l (inr p) =
      ⊎_elim first (λ r. reach_without_new (low (next ρ + 1) (omega arith)) up_start (λ e. omega (arith, up t)) r.1)
      (last_new low_start (up t) p)
    where
      first : Path⁺ (arrow (segment ρ t) (next ρ + 1) ∷ arrows ρ) x z → Reaches (arrows ρ) x (segment ρ t)
      first q =
          ⊎_elim (λ o. absurd (omega (arith, path_rises ρ acc o))) (λ r. r.1)
          (last_new (low (next ρ + 1) (omega arith)) up_start q)

  -- What leads to a segment that a Join makes leads to where the joiner was, or the joined.
  pub join_new : {x z : ℕ} → x < next ρ → next ρ ≤ z → Reaches (arrows (ρ ▸ Join t u)) x z
      → Reaches (arrows ρ) x (segment ρ t) ⊎ Reaches (arrows ρ) x (segment ρ u)
  join_new k l (inl e) = absurd (omega arith)
  join_new {x} {z} k l (inr p) =
      ⊎_elim first (λ r. inl (reach_without_new (low (next ρ) (omega arith)) (up u) (λ e. omega (arith, up t)) r.1))
      (last_new low_join (up t) p)
    where
      first : Path⁺ (arrow (segment ρ u) (next ρ) ∷ arrows ρ) x z
          → Reaches (arrows ρ) x (segment ρ t) ⊎ Reaches (arrows ρ) x (segment ρ u)
      first q =
          ⊎_elim (λ o. absurd (omega (arith, path_rises ρ acc o))) (λ r. inr r.1)
          (last_new (low (next ρ) (omega arith)) (up u) q)

  start_old : {x y : ℕ} → y < next ρ → Path⁺ (arrows (ρ ▸ Start t u)) x y → Path⁺ (arrows ρ) x y
  start_old k p =
      without_new (low (next ρ + 1) (omega arith)) up_start (λ e. omega arith)
      (without_new low_start (up t) (λ e. omega arith) p)

  join_old : {x y : ℕ} → y < next ρ → Path⁺ (arrows (ρ ▸ Join t u)) x y → Path⁺ (arrows ρ) x y
  join_old k p = without_new (low (next ρ) (omega arith)) (up u) (λ e. omega arith) (without_new low_join (up t) (λ e. omega arith) p)

-- What leads to an old segment led there before.
pub path_old : (ρ : Recording) (e : Event) → Accepted ρ → {x y : ℕ} → y < next ρ → Path⁺ (arrows (ρ ▸ e)) x y → Path⁺ (arrows ρ) x y
path_old ρ (Lock t o) acc k p = p
path_old ρ (Release t o) acc k p = p
path_old ρ (Start t u) acc k p = start_old ρ acc t u k p
path_old ρ (Join t u) acc k p = join_old ρ acc t u k p

pub reach_old : (ρ : Recording) (e : Event) → Accepted ρ → {x y : ℕ} → y < next ρ → Reaches (arrows (ρ ▸ e)) x y
    → Reaches (arrows ρ) x y
reach_old ρ e acc k (inl q) = inl q
reach_old ρ e acc k (inr p) = inr (path_old ρ e acc k p)

pub precedes_before : {σ ρ : Recording} → σ ⊑ ρ → Accepted ρ → {x y : ℕ} → y < next σ → Path⁺ (arrows ρ) x y → Path⁺ (arrows σ) x y
precedes_before {σ} (now q) acc {x} {y} k p = subst (λ r. Path⁺ (arrows r) x y) (sym q) p
precedes_before (later {ρ} {e} h) acc k p = precedes_before h acc.0 k (path_old ρ e acc.0 (let l = next_grows h in omega arith) p)
