-- The locks of a row: taken one by one, given up, at most 64.
-- Assumes nothing.
use Rattle.std.proofs.Common.{◌≡◌, ℕ, ◌<◌, ◌≤◌, Bool, true, false, not, ◌&&◌, ◌||◌, eqb, leb, List, [], ◌∷◌, ◌++◌, length, filter, sym, refl, ◌∙◌, arith}
use Rattle.std.specs.List.{AllByRecursion}
use Rattle.std.proofs.ByRecursion.{All-weaker}
use Rattle.std.proofs.lemmas.Bool.{and_parts, and_from, or_parts, or_from, not-true, not_from_false, cond_both, leb-true, le-leb, eqb-false, ne_eqb}
use Rattle.std.proofs.lemmas.List.Recursion.{or_push}
use Rattle.recording.specs.Chains.{Pairwise}
use Rattle.recording.proofs.Distinct.{few}
use Rattle.rules.specs.Rows.{has}
use Rattle.ledger.specs.Rows.{tidy}

-- ---- one more lock

pub has_push : (xs : List ℕ) (o l : ℕ) → has (xs ++ o ∷ []) l ≡ (has xs l || eqb o l)
has_push xs o l = or_push (λ ls. has ls l) (λ x. eqb x l) refl (λ _ _. refl) xs o

-- what tidy says of the first lock and of the others
first : (x : ℕ) (xs : List ℕ) → tidy (x ∷ xs) ≡ true → (x ≤ 63) × (has xs x ≡ false) × (tidy xs ≡ true)
first x xs h =
    let p = and_parts (leb x 63) (not (has xs x) && tidy xs) h in
    let q = and_parts (not (has xs x)) (tidy xs) p.1 in
    (leb-true x 63 p.0, not-true (has xs x) q.0, q.1)

pub tidy_first : (x : ℕ) (xs : List ℕ) → x ≤ 63 → has xs x ≡ false → tidy xs ≡ true → tidy (x ∷ xs) ≡ true
tidy_first x xs low new h =
    and_from (leb x 63) _ (le-leb x 63 low) (and_from (not (has xs x)) (tidy xs) (not_from_false (has xs x) new) h)

flip : (x o : ℕ) → eqb x o ≡ false → eqb o x ≡ false
flip x o e = ne_eqb o x (λ p. eqb-false x o e (sym p))

pub tidy_push : (xs : List ℕ) (o : ℕ) → tidy xs ≡ true → has xs o ≡ false → o ≤ 63 → tidy (xs ++ o ∷ []) ≡ true
tidy_push [] o h new low = tidy_first o [] low refl refl
tidy_push (x ∷ xs) o h new low =
    let p = first x xs h in
    let q = or_parts (eqb x o) (has xs o) new in
    tidy_first x (xs ++ o ∷ []) p.0 (has_push xs o x ∙ or_from (has xs x) (eqb o x) p.1 (flip x o q.0))
    (tidy_push xs o p.2 q.1 low)

-- ---- fewer locks

abbrev pub is_other : ℕ → ℕ → Bool
is_other l x = not (eqb x l)

pub has_kept : (test : ℕ → Bool) (xs : List ℕ) (l : ℕ) → has xs l ≡ false → has (filter test xs) l ≡ false
has_kept test [] l h = refl
has_kept test (x ∷ xs) l h =
    let p = or_parts (eqb x l) (has xs l) h in
    let ih = has_kept test xs l p.1 in
    cond_both (test x) (x ∷ filter test xs) (filter test xs) (λ ys. has ys l ≡ false)
    (λ _. or_from (eqb x l) (has (filter test xs) l) p.0 ih) (λ _. ih)

pub tidy_kept : (test : ℕ → Bool) (xs : List ℕ) → tidy xs ≡ true → tidy (filter test xs) ≡ true
tidy_kept test [] h = refl
tidy_kept test (x ∷ xs) h =
    let p = first x xs h in
    let ih = tidy_kept test xs p.2 in
    cond_both (test x) (x ∷ filter test xs) (filter test xs) (λ ys. tidy ys ≡ true)
    (λ _. tidy_first x (filter test xs) p.0 (has_kept test xs x p.1) ih) (λ _. ih)

-- ---- how many there are

pub tidy_small : (xs : List ℕ) → tidy xs ≡ true → AllByRecursion (λ l. l ≤ 63) xs
tidy_small [] h = tt
tidy_small (x ∷ xs) h = let p = first x xs h in (p.0, tidy_small xs p.2)

differ : (xs : List ℕ) (l : ℕ) → has xs l ≡ false → AllByRecursion (λ x. l ≡ x → ⊥) xs
differ [] l h = tt
differ (x ∷ xs) l h = let p = or_parts (eqb x l) (has xs l) h in ((λ e. eqb-false x l p.0 (sym e)), differ xs l p.1)

tidy_apart : (xs : List ℕ) → tidy xs ≡ true → Pairwise (λ p q. p ≡ q → ⊥) xs
tidy_apart [] h = tt
tidy_apart (x ∷ xs) h = let p = first x xs h in (differ xs x p.1, tidy_apart xs p.2)

-- Where a lock is not held, fewer than 64 are.
pub tidy_few : (xs : List ℕ) (o : ℕ) → tidy xs ≡ true → has xs o ≡ false → o ≤ 63 → length xs < 64
tidy_few xs o h new low =
    let all = tidy_first o xs low new h in
    few 64 (o ∷ xs) (All-weaker (λ l. l ≤ 63) (λ l. l < 64) (λ l k. omega arith) (o ∷ xs) (tidy_small (o ∷ xs) all))
    (tidy_apart (o ∷ xs) all)

pub tidy_count : (xs : List ℕ) → tidy xs ≡ true → length xs ≤ 64
tidy_count xs h = few 64 xs (All-weaker (λ l. l ≤ 63) (λ l. l < 64) (λ l k. omega arith) xs (tidy_small xs h)) (tidy_apart xs h)
