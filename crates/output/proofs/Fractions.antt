-- The fraction k! / (n * k ^ k): its parts fit up to 15, and it vanishes from 16 on, by tests that antt computes at every such k.
-- Assumes nothing.
use Rattle.std.proofs.Common.{◌≡◌, ℕ, zero, suc, ◌+◌, ◌-◌, ◌*◌, ◌^◌, ◌<◌, ◌≤◌, Bool, true, ◌&&◌, ltb, leb, refl, mul-le-mul_right, mul_comm, add-one, arith}
use Rattle.std.proofs.lemmas.Bool.{and_parts, leb-true, ltb-true}
use Rattle.std.proofs.lemmas.Bool.Decides.{Decides-below_and}
use Rattle.output.specs.Odds.{factorial}

pub factorial_more : (i : ℕ) → factorial i * (i + 1) ≡ factorial (i + 1)
factorial_more i = rw add-one (mul_comm (factorial i) (suc i))

-- the test p passes at each number below n
abbrev every : (ℕ → Bool) → ℕ → Bool
every p zero = true
every p (suc n) = p n && every p n

at : (p : ℕ → Bool) (n : ℕ) → every p n ≡ true → (k : ℕ) → k < n → p k ≡ true
at p n = (Decides-below_and p (λ k. p k ≡ true) (every p) (λ k. (λ e. e, λ e. e)) refl (λ _. refl) n).0

-- both parts of the fraction fit 64 bits for every n, and it is at most 1
abbrev fits : ℕ → Bool
fits k = (ltb (10000 * factorial k) (2 ^ 64) && ltb (8 * k ^ k) (2 ^ 64)) && (ltb 0 (k ^ k) && leb (factorial k) (k ^ k))

-- at k = 16 + i the fraction is below a half of one ten thousandth
abbrev vanishes : ℕ → Bool
vanishes i = ltb (2 * (10000 * factorial (16 + i))) ((16 + i) ^ (16 + i))

pub record Fitting (k n : ℕ) : Type 0 where
  pub above : 10000 * factorial k < 2 ^ 64
  pub power : k ^ k < 2 ^ 64
  pub below : n * k ^ k < 2 ^ 64
  pub some : 0 < n * k ^ k
  pub at_most_1 : factorial k ≤ n * k ^ k

-- n times p is at least p, and at most 8 times p
between : (n p : ℕ) → 1 ≤ n → n ≤ 8 → (p ≤ n * p) × (n * p ≤ 8 * p)
between n p low high = (omega (arith, mul-le-mul_right p low), mul-le-mul_right p high)

pub fitting : (k n : ℕ) → k ≤ 15 → 1 ≤ n → n ≤ 8 → Fitting k n
fitting k n small low high =
    let e = and_parts _ _ (at fits 16 refl k (omega arith)) in
    let a = and_parts _ _ e.0 in
    let b = and_parts _ _ e.1 in
    let eight : 8 * k ^ k < 2 ^ 64 = ltb-true _ _ a.1 in
    let some : 0 < k ^ k = ltb-true _ _ b.0 in
    let most : factorial k ≤ k ^ k = leb-true _ _ b.1 in
    let m = between n (k ^ k) low high in
    record { above = ltb-true _ _ a.0; power = omega arith; below = omega arith; some = omega arith; at_most_1 = omega arith }

pub vanishing : (k n : ℕ) → 16 ≤ k → k ≤ 64 → 1 ≤ n → n ≤ 8 → 2 * (10000 * factorial k) < n * k ^ k
vanishing k n large end low high =
    let m = between n (k ^ k) low high in
    let e : 16 + (k - 16) ≡ k = omega arith in
    omega (arith, rw e at (ltb-true _ _ (at vanishes 49 refl (k - 16) (omega arith))))
