-- Paths of arrows, where each new arrow goes to a number that no arrow yet leaves.
-- Assumes nothing.
use Rattle.std.proofs.Common.{◌≡◌, ℕ, ◌<◌, ◌⊎◌, List, [], ◌∷◌, sym, ap, subst, inl, inr, ⊎_elim, arith}
use mathlib.Core.List.Memᴰ
use mathlib.Core.List.{Memᴰ}
use native.Mathlib.Decide.{ℕ_discrete}
use Rattle.order.specs.Arrows.{Arrow, arrow, Path⁺, one, more}

-- A path of no or more arrows.
abbrev pub Reaches : List Arrow → ℕ → ℕ → Type 0
Reaches L x y = (x ≡ y) ⊎ Path⁺ L x y

-- Every arrow of L leaves a number below n.
abbrev pub LeavesBelow : ℕ → List Arrow → Type 0
LeavesBelow n L = (x y : ℕ) → Memᴰ (arrow x y) L → x < n

pub wider : {L M : List Arrow} {x y : ℕ} → ((v w : ℕ) → Memᴰ (arrow v w) L → Memᴰ (arrow v w) M) → Path⁺ L x y → Path⁺ M x y
wider f (one m) = one (f _ _ m)
wider f (more m p) = more (f _ _ m) (wider f p)

pub path_path : {L : List Arrow} {x y z : ℕ} → Path⁺ L x y → Path⁺ L y z → Path⁺ L x z
path_path (one m) q = more m q
path_path (more m p) q = more m (path_path p q)

pub reach_path : {L : List Arrow} {x y z : ℕ} → Reaches L x y → Path⁺ L y z → Path⁺ L x z
reach_path {L} {z = z} (inl e) q = subst (λ w. Path⁺ L w z) (sym e) q
reach_path (inr p) q = path_path p q

pub path_reach : {L : List Arrow} {x y z : ℕ} → Path⁺ L x y → Reaches L y z → Path⁺ L x z
path_reach {L} {x} p (inl e) = subst (λ w. Path⁺ L x w) e p
path_reach p (inr q) = path_path p q

pub reach_reach : {L : List Arrow} {x y z : ℕ} → Reaches L x y → Reaches L y z → Reaches L x z
reach_reach {L} {x} r (inl e) = subst (λ w. Reaches L x w) e r
reach_reach r (inr q) = inr (reach_path r q)

pub first_arrow : {L : List Arrow} {x y : ℕ} → Path⁺ L x y → (w : ℕ) × Memᴰ (arrow x w) L
first_arrow (one m) = (_, m)
first_arrow (more m p) = (_, m)

arrow_from : {x y v w : ℕ} → arrow x y ≡ arrow v w → x ≡ v
arrow_from p = ap (λ (a : Arrow). a.from) p

arrow_to : {x y v w : ℕ} → arrow x y ≡ arrow v w → y ≡ w
arrow_to p = ap (λ (a : Arrow). a.to) p

-- A member of a list with one more arrow.
pub arrow_cases : {L : List Arrow} {x y v w : ℕ} → Memᴰ (arrow x y) (arrow v w ∷ L) → ((x ≡ v) × (y ≡ w)) ⊎ Memᴰ (arrow x y) L
arrow_cases m = ⊎_elim (λ p. inl (arrow_from p, arrow_to p)) inr (Memᴰ.cases_cons m)

module _ {L : List Arrow} {s n : ℕ} (low : LeavesBelow n L) (up : s < n) where
  -- Nothing leads on from a number that no arrow leaves.
  stuck : {y : ℕ} → Path⁺ L n y → ⊥
  stuck p = let m = first_arrow p in let k = low n m.0 m.1 in omega arith

  -- A path with the new arrow s → n goes without it, or ends with it.
  pub last_new : {x y : ℕ} → Path⁺ (arrow s n ∷ L) x y → Path⁺ L x y ⊎ ((y ≡ n) × Reaches L x s)
  last_new (one {x} {y} m) = ⊎_elim (λ e. inr (e.1, inl e.0)) (λ k. inl (one k)) (arrow_cases m)
  last_new (more {x} {y} {z} m p) = ⊎_elim (λ e. absurd (new e (last_new p))) (λ k. old k (last_new p)) (arrow_cases m)
    where
      new : (x ≡ s) × (y ≡ n) → Path⁺ L y z ⊎ ((z ≡ n) × Reaches L y s) → ⊥
      new e (inl q) = stuck (subst (λ w. Path⁺ L w z) e.1 q)
      new e (inr (f, inl g)) = omega (arith, e.1)
      new e (inr (f, inr q)) = stuck (subst (λ w. Path⁺ L w s) e.1 q)

      old : Memᴰ (arrow x y) L → Path⁺ L y z ⊎ ((z ≡ n) × Reaches L y s) → Path⁺ L x z ⊎ ((z ≡ n) × Reaches L x s)
      old k (inl q) = inl (more k q)
      old k (inr f) = inr (f.0, inr (path_reach (one k) f.1))

  -- A path to a number that is not the new one goes without the new arrow.
  pub without_new : {x y : ℕ} → (y ≡ n → ⊥) → Path⁺ (arrow s n ∷ L) x y → Path⁺ L x y
  without_new ne p = ⊎_elim (λ q. q) (λ f. absurd (ne f.0)) (last_new p)

  pub reach_without_new : {x y : ℕ} → (y ≡ n → ⊥) → Reaches (arrow s n ∷ L) x y → Reaches L x y
  reach_without_new ne (inl e) = inl e
  reach_without_new ne (inr p) = inr (without_new ne p)

-- Each arrow, when it came, went up to a number that no earlier arrow left.
abbrev pub Layered : List Arrow → Type 0
Layered [] = Unit {0}
Layered (a ∷ L) = (a.from < a.to) × LeavesBelow a.to L × Layered L

-- Whether there is a path can be told.
pub path? : (L : List Arrow) → Layered L → (x y : ℕ) → Dec (Path⁺ L x y)
path? [] h x y = no (λ p. Memᴰ.not-nil (first_arrow p).1)
path? (a ∷ L) h x y = decide (path? L h.2 x y) (ℕ_discrete y a.to) (ℕ_discrete x a.from) (path? L h.2 x a.from)
  where
    old : {v w : ℕ} → Path⁺ L v w → Path⁺ (a ∷ L) v w
    old p = wider (λ v w m. Memᴰ.tail m) p

    new : {v : ℕ} → v ≡ a.to → Path⁺ (a ∷ L) a.from v
    new e = one (Memᴰ.head (ap (λ w. arrow a.from w) e))

    decide : Dec (Path⁺ L x y) → Dec (y ≡ a.to) → Dec (x ≡ a.from) → Dec (Path⁺ L x a.from) → Dec (Path⁺ (a ∷ L) x y)
    decide (yes p) to from way = yes (old p)
    decide (no np) (no nt) from way = no (λ p. np (without_new h.1 h.0 nt p))
    decide (no np) (yes t) (yes f) way = yes (subst (λ w. Path⁺ (a ∷ L) w y) (sym f) (new t))
    decide (no np) (yes t) (no nf) (yes w) = yes (path_path (old w) (new t))
    decide (no np) (yes t) (no nf) (no nw) = no (λ p. ⊎_elim np (λ l. ⊎_elim nf nw l.1) (last_new h.1 h.0 p))
