-- Paths, as arrows to a new segment are drawn.
use Rattle.std.proofs.Common.{◌≡◌, ℕ, ◌+◌, ◌<◌, Bool, ◌⊎◌, List, ◌++◌, Decides, sym, refl, subst, inl, inr, arith}
use mathlib.Core.List.Memᴰ
use mathlib.Core.List.{Memᴰ}
use Rattle.std.proofs.lemmas.Bool.{cases_eq, eq-eqb, ne_eqb}
use Rattle.order.specs.Meaning.{Meaning, opened}
use Rattle.order.specs.Arrows.{Arrow, arrow, Path⁺, one, more}
use Rattle.order.specs.Histories.{Told}

-- Every arrow joins segments below n.
abbrev pub Inside : ℕ → List Arrow → Type 0
Inside n L = (x y : ℕ) → Memᴰ (arrow x y) L → (x < n) × (y < n)

-- Every arrow leads from a segment below n to n.
abbrev pub Onto : ℕ → List Arrow → Type 0
Onto n K = (x y : ℕ) → Memᴰ (arrow x y) K → (x < n) × (y ≡ n)

-- An arrow of K leads to n from a, or from where a path of L leads.
abbrev pub Leads : List Arrow → List Arrow → ℕ → ℕ → Type 0
Leads K L n a = (s : ℕ) × Memᴰ (arrow s n) K × ((a ≡ s) ⊎ Path⁺ L a s)

wider : (K : List Arrow) {L : List Arrow} {x y : ℕ} → Path⁺ L x y → Path⁺ (K ++ L) x y
wider K (one m) = one (Memᴰ.append_right K m)
wider K (more m p) = more (Memᴰ.append_right K m) (wider K p)

onward : {L : List Arrow} {x y z : ℕ} → Path⁺ L x y → Memᴰ (arrow y z) L → Path⁺ L x z
onward (one m) k = more m (one k)
onward (more m p) k = more m (onward p k)

pub path_ends : {n : ℕ} {L : List Arrow} → Inside n L → {x y : ℕ} → Path⁺ L x y → (x < n) × (y < n)
path_ends i (one m) = i _ _ m
path_ends i (more m p) = ((i _ _ m).0, (path_ends i p).1)

module _ {n : ℕ} {K L : List Arrow} (onto : Onto n K) (inside : Inside n L) where
  -- No path of L leaves n, so nothing leads on from there.
  stuck : Leads K L n n → ⊥
  stuck (s, m, inl e) = omega (arith, onto s n m)
  stuck (s, m, inr p) = omega (arith, path_ends inside p)

  -- A path with the new arrows ends in n by one of them, or goes without them.
  split : {x y : ℕ} → Path⁺ (K ++ L) x y → ((y ≡ n) × Leads K L n x) ⊎ Path⁺ L x y
  split (one {x} {y} m) = first (Memᴰ.append_cases K m)
    where
      first : Memᴰ (arrow x y) K ⊎ Memᴰ (arrow x y) L → ((y ≡ n) × Leads K L n x) ⊎ Path⁺ L x y
      first (inl k) = let e = (onto x y k).1 in inl (e, (x, subst (λ z. Memᴰ (arrow x z) K) e k, inl refl))
      first (inr l) = inr (one l)
  split (more {x} {y} {z} m p) = first (Memᴰ.append_cases K m) (split p)
    where
      first : Memᴰ (arrow x y) K ⊎ Memᴰ (arrow x y) L → ((z ≡ n) × Leads K L n y) ⊎ Path⁺ L y z
          → ((z ≡ n) × Leads K L n x) ⊎ Path⁺ L x z
      first (inl k) (inl (e, d)) = absurd (stuck (subst (Leads K L n) (onto x y k).1 d))
      first (inl k) (inr q) = absurd (omega (arith, onto x y k, path_ends inside q))
      first (inr l) (inl (e, (s, k, inl d))) = inl (e, (s, k, inr (one (subst (λ w. Memᴰ (arrow x w) L) d l))))
      first (inr l) (inl (e, (s, k, inr q))) = inl (e, (s, k, inr (more l q)))
      first (inr l) (inr q) = inr (more l q)

  join : {x : ℕ} → Leads K L n x → Path⁺ (K ++ L) x n
  join (s, m, inl e) = subst (λ w. Path⁺ (K ++ L) w n) (sym e) (one (Memᴰ.append_left L m))
  join (s, m, inr p) = onward (wider K p) (Memᴰ.append_left L m)

-- One more segment, which exactly those precede that lead to it.
pub told_more : (m : Meaning) (past : ℕ → Bool) (K L : List Arrow) → Onto m.segments K → Inside m.segments L → Told m L
    → ((a : ℕ) → Decides (past a) (Leads K L m.segments a)) → Told (opened m past) (K ++ L)
told_more m past K L onto inside told leads x y =
    elim (cases_eq y m.segments) [
      | inl e ↦ rw (eq-eqb y m.segments e) (
        (λ t. subst (Path⁺ (K ++ L) x) (sym e) (join onto inside ((leads x).0 t))),
        (λ p. (leads x).1 (last e (split onto inside p))),
      )
      | inr ne ↦ rw (ne_eqb y m.segments ne) (
        (λ t. wider K ((told x y).0 t)),
        (λ p. (told x y).1 (other ne (split onto inside p))),
      )
    ]
  where
    last : y ≡ m.segments → ((y ≡ m.segments) × Leads K L m.segments x) ⊎ Path⁺ L x y → Leads K L m.segments x
    last e (inl d) = d.1
    last e (inr p) = absurd (omega (arith, path_ends inside p))

    other : (y ≡ m.segments → ⊥) → ((y ≡ m.segments) × Leads K L m.segments x) ⊎ Path⁺ L x y → Path⁺ L x y
    other ne (inl d) = absurd (ne d.0)
    other ne (inr p) = p

pub inside_more : {n : ℕ} (K L : List Arrow) → Onto n K → Inside n L → Inside (n + 1) (K ++ L)
inside_more {n} K L onto inside x y m = go (Memᴰ.append_cases K m)
  where
    go : Memᴰ (arrow x y) K ⊎ Memᴰ (arrow x y) L → (x < n + 1) × (y < n + 1)
    go (inl k) = let o = onto x y k in (omega arith, omega arith)
    go (inr l) = let o = inside x y l in (omega arith, omega arith)
