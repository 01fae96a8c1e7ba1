-- Lists of places that come before or after others, and what a test keeps of a list.
-- Assumes nothing.
use Rattle.std.proofs.Common.{◌≡◌, ℕ, zero, suc, ◌+◌, ◌<◌, ◌≤◌, Bool, true, false, cond, not, ◌⊎◌, List, [], ◌∷◌, ◌++◌, length, get_or, drop, Decides, filter, Ordering, Less, Equal, Greater, sym, refl, ap, ◌∙◌, inl, inr, ⊎_elim, arith}
use mathlib.Core.List.{Memᴰ}
use Rattle.std.specs.Ordering.{is_lt, ordering_then, MatchOrdering, nat_cmp}
use Rattle.std.proofs.lemmas.Bool.{cases_order, false≢true}
use Rattle.std.proofs.lemmas.Cmp.{ranked}
use Rattle.recording.specs.Enumeration.{rank_places}

number : (a b : ℕ) → MatchOrdering (nat_cmp a b) (a < b) (a ≡ b) (b < a)
number a b = ranked a b (nat_cmp a b) refl

-- qs does not come before ps.
abbrev pub Reached : List ℕ → List ℕ → Type 0
Reached [] qs = Unit {0}
Reached (p ∷ ps) [] = ⊥
Reached (p ∷ ps) (q ∷ qs) = (p < q) ⊎ ((p ≡ q) × Reached ps qs)

-- qs comes after all that begin with ps.
abbrev pub Past : List ℕ → List ℕ → Type 0
Past [] qs = ⊥
Past (p ∷ ps) [] = ⊥
Past (p ∷ ps) (q ∷ qs) = (p < q) ⊎ ((p ≡ q) × Past ps qs)

pub reached_decides : (ps qs : List ℕ) → Decides (not (is_lt (rank_places qs ps))) (Reached ps qs)
reached_decides [] [] = (λ e. tt, λ h. refl)
reached_decides [] (q ∷ qs) = (λ e. tt, λ h. refl)
reached_decides (p ∷ ps) [] = (λ e. absurd (false≢true e), λ h. absurd h)
reached_decides (p ∷ ps) (q ∷ qs) = go (nat_cmp q p) (number q p) (reached_decides ps qs)
  where
    go : (k : Ordering) → MatchOrdering k (q < p) (q ≡ p) (p < q) → Decides (not (is_lt (rank_places qs ps))) (Reached ps qs)
        → Decides (not (is_lt (ordering_then k (rank_places qs ps)))) ((p < q) ⊎ ((p ≡ q) × Reached ps qs))
    go Less h d = (λ e. absurd (false≢true e), λ w. absurd (⊎_elim (λ l. omega arith) (λ s. omega (arith, s.0)) w))
    go Equal h d = (λ e. inr (sym h, d.0 e), λ w. ⊎_elim (λ l. absurd (omega arith)) (λ s. d.1 s.1) w)
    go Greater h d = (λ e. inl h, λ w. refl)

-- What comes after ps does not come before ps with 0 behind it.
pub after_decides : (ps qs : List ℕ) → Decides (is_lt (rank_places ps qs)) (Reached (ps ++ 0 ∷ []) qs)
after_decides [] [] = (λ e. absurd (false≢true e), λ h. absurd h)
after_decides [] (q ∷ qs) = (λ e. zero_or q, λ h. refl)
  where
    zero_or : (n : ℕ) → (0 < n) ⊎ ((0 ≡ n) × Unit {0})
    zero_or zero = inr (refl, tt)
    zero_or (suc n) = inl (omega arith)
after_decides (p ∷ ps) [] = (λ e. absurd (false≢true e), λ h. absurd h)
after_decides (p ∷ ps) (q ∷ qs) = go (nat_cmp p q) (number p q) (after_decides ps qs)
  where
    go : (k : Ordering) → MatchOrdering k (p < q) (p ≡ q) (q < p) → Decides (is_lt (rank_places ps qs)) (Reached (ps ++ 0 ∷ []) qs)
        → Decides (is_lt (ordering_then k (rank_places ps qs))) ((p < q) ⊎ ((p ≡ q) × Reached (ps ++ 0 ∷ []) qs))
    go Less h d = (λ e. inl h, λ w. refl)
    go Equal h d = (λ e. inr (h, d.0 e), λ w. ⊎_elim (λ l. absurd (omega arith)) (λ s. d.1 s.1) w)
    go Greater h d = (λ e. absurd (false≢true e), λ w. absurd (⊎_elim (λ l. omega arith) (λ s. omega (arith, s.0)) w))

-- What reaches ps with a place behind it goes on from ps at that place or a later one, or is past ps.
abbrev pub On : List ℕ → ℕ → List ℕ → Type 0
On ps from qs = (x : ℕ) × (rest : List ℕ) × (qs ≡ ps ++ x ∷ rest) × (from ≤ x)

pub reached_cases : (ps : List ℕ) (from : ℕ) (qs : List ℕ) → Reached (ps ++ from ∷ []) qs → On ps from qs ⊎ Past ps qs
reached_cases [] from [] h = absurd h
reached_cases [] from (q ∷ qs) h = inl (q, qs, refl, ⊎_elim (λ l. omega arith) (λ s. omega (arith, s.0)) h)
reached_cases (p ∷ ps) from [] h = absurd h
reached_cases (p ∷ ps) from (q ∷ qs) (inl l) = inr (inl l)
reached_cases (p ∷ ps) from (q ∷ qs) (inr (e, h)) =
    ⊎_elim (λ w. inl (w.0, w.1, (ap (λ z. z ∷ qs) (sym e) ∙ ap (λ zs. p ∷ zs) w.2), w.3)) (λ w. inr (inr (e, w)))
    (reached_cases ps from qs h)

pub past_reached : (ps : List ℕ) (x : ℕ) (qs : List ℕ) → Past ps qs → Reached (ps ++ x ∷ []) qs
past_reached [] x qs h = absurd h
past_reached (p ∷ ps) x [] h = absurd h
past_reached (p ∷ ps) x (q ∷ qs) (inl l) = inl l
past_reached (p ∷ ps) x (q ∷ qs) (inr (e, h)) = inr (e, past_reached ps x qs h)

-- Past ps with l behind it is what reaches ps with l + 1 behind it.
pub past_last : (ps : List ℕ) (l : ℕ) (qs : List ℕ) → Past (ps ++ l ∷ []) qs → Reached (ps ++ (l + 1) ∷ []) qs
past_last [] l [] h = absurd h
past_last [] l (q ∷ qs) (inl k) = elim (cases_order (l + 1) q) [
  | inl e ↦ inr (e, tt)
  | inr (inl g) ↦ inl g
  | inr (inr g) ↦ absurd (omega arith)
]
past_last [] l (q ∷ qs) (inr (e, h)) = absurd h
past_last (p ∷ ps) l [] h = absurd h
past_last (p ∷ ps) l (q ∷ qs) (inl k) = inl k
past_last (p ∷ ps) l (q ∷ qs) (inr (e, h)) = inr (e, past_last ps l qs h)

pub last_past : (ps : List ℕ) (l : ℕ) (qs : List ℕ) → Reached (ps ++ (l + 1) ∷ []) qs → Past (ps ++ l ∷ []) qs
last_past [] l [] h = absurd h
last_past [] l (q ∷ qs) h = inl (⊎_elim (λ k. omega arith) (λ s. omega (arith, s.0)) h)
last_past (p ∷ ps) l [] h = absurd h
last_past (p ∷ ps) l (q ∷ qs) (inl k) = inl k
last_past (p ∷ ps) l (q ∷ qs) (inr (e, h)) = inr (e, last_past ps l qs h)

pub on_reached : (ps : List ℕ) (from x : ℕ) (rest : List ℕ) → from ≤ x → Reached (ps ++ from ∷ []) (ps ++ x ∷ rest)
on_reached [] from x rest h = elim (cases_order from x) [
  | inl e ↦ inr (e, tt)
  | inr (inl g) ↦ inl g
  | inr (inr g) ↦ absurd (omega arith)
]
on_reached (p ∷ ps) from x rest h = inr (refl, on_reached ps from x rest h)

-- ---- what a test keeps

module _ {X : Type 0} where
  pub kept_same : (p q : X → Bool) (xs : List X) → ((x : X) → Memᴰ x xs → p x ≡ q x) → filter p xs ≡ filter q xs
  kept_same p q [] h = refl
  kept_same p q (x ∷ xs) h =
      let here = h x (Memᴰ.head refl) in
      let more = kept_same p q xs (λ y m. h y (Memᴰ.tail m)) in
      λ i. cond (here i) (x ∷ more i) (more i)

  pub kept_all : (test : X → Bool) (xs : List X) → ((x : X) → Memᴰ x xs → test x ≡ true) → filter test xs ≡ xs
  kept_all test [] h = refl
  kept_all test (x ∷ xs) h =
      let more = kept_all test xs (λ y m. h y (Memᴰ.tail m)) in
      let here = h x (Memᴰ.head refl) in
      λ i. cond (here i) (x ∷ more i) (more i)

  pub kept_none : (test : X → Bool) (xs : List X) → ((x : X) → Memᴰ x xs → test x ≡ false) → filter test xs ≡ []
  kept_none test [] h = refl
  kept_none test (x ∷ xs) h =
      let more = kept_none test xs (λ y m. h y (Memᴰ.tail m)) in
      let here = h x (Memᴰ.head refl) in
      λ i. cond (here i) (x ∷ more i) (more i)

  -- a test that fails before a place and passes from there on
  pub kept_from : (test : X → Bool) (xs : List X) (n : ℕ) (d : X) → ((i : ℕ) → i < n → i < length xs → test (get_or xs i d) ≡ false)
      → ((i : ℕ) → n ≤ i → i < length xs → test (get_or xs i d) ≡ true) → filter test xs ≡ drop n xs
  kept_from test [] zero d low high = refl
  kept_from test [] (suc n) d low high = refl
  kept_from test (x ∷ xs) zero d low high =
      let here = high 0 (omega arith) (omega arith) in
      let more = kept_from test xs 0 d (λ i h k. absurd (omega arith)) (λ i h k. high (suc i) (omega arith) (omega arith)) in
      λ i. cond (here i) (x ∷ more i) (more i)
  kept_from test (x ∷ xs) (suc n) d low high =
      let here = low 0 (omega arith) (omega arith) in
      let more = kept_from test xs n d (λ i h k. low (suc i) (omega arith) (omega arith))
      (λ i h k. high (suc i) (omega arith) (omega arith)) in
      λ i. cond (here i) (x ∷ more i) (more i)
