-- Members of lists of which each has a property, or each two a relation.
-- Assumes nothing.
use Rattle.std.proofs.Common.{◌≡◌, ℕ, zero, suc, ◌<◌, ◌⊎◌, List, [], ◌∷◌, length, get_or, sym, refl, ◌∙◌, subst, inl, inr, ⊎_elim, arith}
use mathlib.Core.List.Memᴰ
use mathlib.Core.List.{Memᴰ}
use Rattle.std.specs.List.{AllByRecursion}
use Rattle.sorted_list.proofs.Members.{all_member}
use Rattle.recording.specs.Chains.{Pairwise}

module _ {A : Type 0} where
  pub all_from : (P : A → Type 0) (xs : List A) → ((x : A) → Memᴰ x xs → P x) → AllByRecursion P xs
  all_from P [] h = tt
  all_from P (x ∷ xs) h = (h x (Memᴰ.head refl), all_from P xs (λ y m. h y (Memᴰ.tail m)))

  pub all_both : (P Q : A → Type 0) (xs : List A) → AllByRecursion P xs → AllByRecursion Q xs → AllByRecursion (λ x. P x × Q x) xs
  all_both P Q [] h k = tt
  all_both P Q (x ∷ xs) h k = ((h.0, k.0), all_both P Q xs h.1 k.1)

  -- What stands at a place is a member.
  pub at_member : (xs : List A) (i : ℕ) (d : A) → i < length xs → Memᴰ (get_or xs i d) xs
  at_member [] i d h = absurd (omega arith)
  at_member (x ∷ xs) zero d h = Memᴰ.head refl
  at_member (x ∷ xs) (suc i) d h = Memᴰ.tail (at_member xs i d (omega arith))

  -- A member stands at a place.
  pub place_of : (d : A) {x : A} {xs : List A} → Memᴰ x xs → (i : ℕ) × (i < length xs) × (get_or xs i d ≡ x)
  place_of d (Memᴰ.head e) = (0, omega arith, sym e)
  place_of d (Memᴰ.tail m) = let w = place_of d m in (suc w.0, omega (arith, w.1), w.2)

  -- Two members are one, or stand in the relation.
  pub pairwise_at : (R : A → A → Type 0) → ((x y : A) → R x y → R y x) → (xs : List A) {x y : A} → Pairwise R xs
      → Memᴰ x xs → Memᴰ y xs → (x ≡ y) ⊎ R x y
  pairwise_at R flip [] h m n = absurd (Memᴰ.not-nil m)
  pairwise_at R flip (z ∷ zs) {x} {y} h m n =
      go (Memᴰ.cases_cons m) (Memᴰ.cases_cons n) (λ a b. pairwise_at R flip zs h.1 a b)
    where
      go : (x ≡ z) ⊎ Memᴰ x zs → (y ≡ z) ⊎ Memᴰ y zs → (Memᴰ x zs → Memᴰ y zs → (x ≡ y) ⊎ R x y) → (x ≡ y) ⊎ R x y
      go (inl d) (inl e) rest = inl (d ∙ sym e)
      go (inl d) (inr b) rest = inr (subst (λ w. R w y) (sym d) (all_member (R z) zs h.0 b))
      go (inr a) (inl e) rest = inr (subst (λ w. R x w) (sym e) (flip z x (all_member (R z) zs h.0 a)))
      go (inr a) (inr b) rest = rest a b

  -- Whether some member has a property can be told.
  pub some? : (P : A → Type 0) → ((x : A) → Dec (P x)) → (xs : List A) → Dec ((x : A) × Memᴰ x xs × P x)
  some? P dec [] = no (λ w. Memᴰ.not-nil w.1)
  some? P dec (x ∷ xs) = go (dec x) (some? P dec xs)
    where
      go : Dec (P x) → Dec ((y : A) × Memᴰ y xs × P y) → Dec ((y : A) × Memᴰ y (x ∷ xs) × P y)
      go (yes p) d = yes (x, Memᴰ.head refl, p)
      go (no np) (yes w) = yes (w.0, Memᴰ.tail w.1, w.2)
      go (no np) (no nw) = no (λ w. ⊎_elim (λ e. np (subst P e w.2)) (λ m. nw (w.0, m, w.2)) (Memᴰ.cases_cons w.1))

  -- The members with what is known of each.
  abbrev pub pairs : (P : A → Type 0) (xs : List A) → AllByRecursion P xs → List ((x : A) × P x)
  pairs P [] h = []
  pairs P (x ∷ xs) h = (x, h.0) ∷ pairs P xs h.1

  pub pairs_at : (P : A → Type 0) (xs : List A) (h : AllByRecursion P xs) {x : A} → Memᴰ x xs
      → (w : (y : A) × P y) × Memᴰ w (pairs P xs h) × (x ≡ w.0)
  pairs_at P [] h m = absurd (Memᴰ.not-nil m)
  pairs_at P (y ∷ ys) h m =
      ⊎_elim (λ e. ((y, h.0), Memᴰ.head refl, e))
      (λ n. let w = pairs_at P ys h.1 n in (w.0, Memᴰ.tail w.1, w.2)) (Memᴰ.cases_cons m)

  all_pairs : (P Q : A → Type 0) (xs : List A) (h : AllByRecursion P xs) → AllByRecursion Q xs → AllByRecursion (λ w. Q w.0) (pairs P xs h)
  all_pairs P Q [] h k = tt
  all_pairs P Q (x ∷ xs) h k = (k.0, all_pairs P Q xs h.1 k.1)

  pub pairwise_pairs : (P : A → Type 0) (R : A → A → Type 0) (xs : List A) (h : AllByRecursion P xs) → Pairwise R xs
      → Pairwise (λ v w. R v.0 w.0) (pairs P xs h)
  pairwise_pairs P R [] h k = tt
  pairwise_pairs P R (x ∷ xs) h k = (all_pairs P (R x) xs h.1 k.0, pairwise_pairs P R xs h.1 k.1)
