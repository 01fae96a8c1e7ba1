-- Lists of locks: what they have, and that no lock stands in them twice.
-- Assumes nothing.
use Rattle.std.proofs.Common.{◌≡◌, ℕ, Bool, true, false, not, ◌&&◌, ◌||◌, eqb, List, [], ◌∷◌, Decides, filter, sym, refl, ap, ◌∙◌, ⊎_elim, arith}
use mathlib.Core.List.{Memᴰ}
use Rattle.std.proofs.ByRecursion.{All-push, all_kept_by}
use Rattle.std.proofs.lemmas.Bool.{false≢true, not-true, not-false, eq-eqb, eqb-true, eqb-false, or_cases, or_parts, or_left, or_right, cond_both}
use Rattle.std.proofs.lemmas.Bool.Decides.{nat_tests}
use Rattle.recording.specs.Chains.{Pairwise}
use Rattle.rules.specs.Rows.{has, taken, given_up}

-- No two of the locks are the same.
abbrev pub Different : List ℕ → Type 0
Different xs = Pairwise (λ x y. x ≡ y → ⊥) xs

pub has_tells : (xs : List ℕ) (l : ℕ) → Decides (has xs l) (Memᴰ l xs)
has_tells xs l = (out xs, into)
  where
    out : (ys : List ℕ) → has ys l ≡ true → Memᴰ l ys
    out [] h = absurd (false≢true h)
    out (y ∷ ys) h =
        ⊎_elim (λ e. Memᴰ.head (sym (eqb-true y l e))) (λ t. Memᴰ.tail (out ys t)) (or_cases (eqb y l) (has ys l) h)

    into : {ys : List ℕ} → Memᴰ l ys → has ys l ≡ true
    into (Memᴰ.head {x = y} {xs = ys} e) = or_left (eqb y l) (has ys l) (eq-eqb y l (sym e))
    into (Memᴰ.tail {x = y} {xs = ys} m) = or_right (eqb y l) (has ys l) (into m)

-- ---- a lock is taken

pub has_taken : (xs : List ℕ) (o l : ℕ) → has (taken o xs) l ≡ (has xs l || eqb o l)
has_taken [] o l = last (eqb o l)
  where
    last : (b : Bool) → (b || false) ≡ b
    last true = refl
    last false = refl
has_taken (x ∷ xs) o l = ap (λ b. eqb x l || b) (has_taken xs o l) ∙ group (eqb x l) (has xs l) (eqb o l)
  where
    group : (a b c : Bool) → (a || (b || c)) ≡ ((a || b) || c)
    group true b c = refl
    group false b c = refl

pub different_taken : (xs : List ℕ) (o : ℕ) → Different xs → has xs o ≡ false → Different (taken o xs)
different_taken [] o d h = (tt, tt)
different_taken (x ∷ xs) o d h =
    let p = or_parts (eqb x o) (has xs o) h in
    (All-push (λ y. x ≡ y → ⊥) xs o d.0 (eqb-false x o p.0), different_taken xs o d.1 p.1)

-- ---- a lock is given up

pub has_given_up : (xs : List ℕ) (o l : ℕ) → has (given_up o xs) l ≡ (has xs l && not (eqb o l))
has_given_up [] o l = refl
has_given_up (x ∷ xs) o l =
    cond_both (not (eqb x o)) (x ∷ given_up o xs) (given_up o xs) (λ k. has k l ≡ ((eqb x l || has xs l) && not (eqb o l)))
    (λ e. ap (λ b. eqb x l || b) (has_given_up xs o l) ∙ kept (eqb-false x o (not-true (eqb x o) e)) (has xs l))
    (λ e. has_given_up xs o l ∙ left (eqb-true x o (not-false (eqb x o) e)) (has xs l))
  where
    kept : (x ≡ o → ⊥) → (b : Bool) → (eqb x l || (b && not (eqb o l))) ≡ ((eqb x l || b) && not (eqb o l))
    kept ne b = grind (arith, nat_tests)

    left : x ≡ o → (b : Bool) → (b && not (eqb o l)) ≡ ((eqb x l || b) && not (eqb o l))
    left e b = grind (arith, nat_tests)

pub different_kept : (test : ℕ → Bool) (xs : List ℕ) → Different xs → Different (filter test xs)
different_kept test [] d = tt
different_kept test (x ∷ xs) d =
    let rest = different_kept test xs d.1 in
    cond_both (test x) (x ∷ filter test xs) (filter test xs) Different
    (λ _. (all_kept_by test (λ y. x ≡ y → ⊥) xs d.0, rest)) (λ _. rest)
