-- Different numbers below n are at most n.
-- Assumes nothing.
use Rattle.std.proofs.Common.{◌≡◌, ℕ, zero, suc, ◌<◌, ◌≤◌, Bool, true, false, cond, eqb, List, [], ◌∷◌, length, sym, refl, ◌∙◌, arith}
use Rattle.std.specs.List.{AllByRecursion}
use Rattle.std.proofs.lemmas.Bool.{eqb-true, eqb-false}
use Rattle.recording.specs.Chains.{Pairwise}

abbrev Differ : ℕ → ℕ → Type 0
Differ p q = p ≡ q → ⊥

-- The numbers but for the first that is n.
abbrev without : ℕ → List ℕ → List ℕ
without n [] = []
without n (p ∷ ps) = cond (eqb p n) ps (p ∷ without n ps)

module _ (n : ℕ) where
  without_length : (ps : List ℕ) → length ps ≤ suc (length (without n ps))
  without_length [] = omega arith
  without_length (p ∷ ps) = go (eqb p n) (without_length ps)
    where
      go : (b : Bool) → length ps ≤ suc (length (without n ps)) → length (p ∷ ps) ≤ suc (length (cond b ps (p ∷ without n ps)))
      go true ih = omega arith
      go false ih = omega arith

  without_all : (P : ℕ → Type 0) (ps : List ℕ) → AllByRecursion P ps → AllByRecursion P (without n ps)
  without_all P [] h = tt
  without_all P (p ∷ ps) h = go (eqb p n) (without_all P ps h.1)
    where
      go : (b : Bool) → AllByRecursion P (without n ps) → AllByRecursion P (cond b ps (p ∷ without n ps))
      go true ih = h.1
      go false ih = (h.0, ih)

  without_differ : (ps : List ℕ) → Pairwise Differ ps → Pairwise Differ (without n ps)
  without_differ [] h = tt
  without_differ (p ∷ ps) h = go (eqb p n) (without_differ ps h.1)
    where
      go : (b : Bool) → Pairwise Differ (without n ps) → Pairwise Differ (cond b ps (p ∷ without n ps))
      go true ih = h.1
      go false ih = (without_all (Differ p) ps h.0, ih)

  below_but : (p : ℕ) (ps : List ℕ) → p ≡ n → AllByRecursion (λ q. q < suc n) ps → AllByRecursion (Differ p) ps → AllByRecursion (λ q. q < n) ps
  below_but p [] e h d = tt
  below_but p (q ∷ qs) e h d = let k : q ≡ n → ⊥ = (λ f. d.0 (e ∙ sym f)) in (omega (arith, h.0, k), below_but p qs e h.1 d.1)

  without_below : (ps : List ℕ) → AllByRecursion (λ q. q < suc n) ps → Pairwise Differ ps → AllByRecursion (λ q. q < n) (without n ps)
  without_below [] h d = tt
  without_below (p ∷ ps) h d = go (eqb p n) (λ e. e) (λ e. e) (without_below ps h.1 d.1)
    where
      go : (b : Bool) → (b ≡ true → eqb p n ≡ true) → (b ≡ false → eqb p n ≡ false) → AllByRecursion (λ q. q < n) (without n ps)
          → AllByRecursion (λ q. q < n) (cond b ps (p ∷ without n ps))
      go true t f ih = below_but p ps (eqb-true p n (t refl)) h.1 d.0
      go false t f ih = (omega (arith, h.0, eqb-false p n (f refl)), ih)

pub few : (n : ℕ) (ps : List ℕ) → AllByRecursion (λ q. q < n) ps → Pairwise (λ p q. p ≡ q → ⊥) ps → length ps ≤ n
few zero [] h d = omega arith
few zero (p ∷ ps) h d = absurd (omega (arith, h.0))
few (suc n) ps h d =
    let ih = few n (without n ps) (without_below n ps h d) (without_differ n ps d) in
    omega (arith, ih, without_length n ps)
