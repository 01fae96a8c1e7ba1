-- Sets of numbers as bits of a number.
-- Assumes nothing.
use Rattle.std.proofs.Common.{◌≡◌, ℕ, zero, suc, ◌/◌, ◌%◌, ◌^◌, ◌<◌, min, Bool, true, false, cond, sym, refl, ap, ◌∙◌, ⊎_elim, div-one, arith}
use native.Mathlib.Nat.{zero-div, div-div-eq-div-mul, pow-succ'}
use lib.Bits.{bit_and, and_step, and_shr, and_zero_l}
use Rattle.std.proofs.lemmas.Bool.{cases_lt}
use Rattle.rows.specs.Edges.{In}
use Rattle.recording.specs.EdgeList.{gather}

-- The bits above the lowest are those of the half.
pub in_half : (l g : ℕ) → (g / 2 ^ suc l) % 2 ≡ (g / 2 / 2 ^ l) % 2
in_half l g = ap (λ x. x % 2) (ap (λ x. g / x) (pow-succ' 2 l) ∙ sym (div-div-eq-div-mul g 2 (2 ^ l)))

pub in_zero : (g : ℕ) → (g / 2 ^ 0) % 2 ≡ g % 2
in_zero g = ap (λ x. x % 2) (div-one g)

not_in_none : (l : ℕ) → In l 0 → ⊥
not_in_none l h = let z = zero-div (2 ^ l) in let k = ap (λ x. x % 2) z in omega arith

bit_small : (b : Bool) → cond b 1 0 < 2
bit_small true = omega arith
bit_small false = omega arith

pub gather_small : (n : ℕ) (f : ℕ → Bool) → gather f n < 2 ^ n
gather_small zero f = omega arith
gather_small (suc n) f = omega (arith, gather_small n (λ i. f (suc i)), bit_small (f 0), pow-succ' 2 n)

gather_half : (n : ℕ) (f : ℕ → Bool) → gather f (suc n) / 2 ≡ gather (λ i. f (suc i)) n
gather_half n f = omega (arith, bit_small (f 0))

gather_low : (n : ℕ) (f : ℕ → Bool) → gather f (suc n) % 2 ≡ cond (f 0) 1 0
gather_low n f = omega (arith, bit_small (f 0))

bit_one : (b : Bool) → ◌≡◌ {A = ℕ} (cond b 1 0) 1 → b ≡ true
bit_one true h = refl
bit_one false h = absurd (omega arith)

pub in_gather : (n : ℕ) (f : ℕ → Bool) (l : ℕ) → In l (gather f n) → f l ≡ true
in_gather zero f l h = absurd (not_in_none l h)
in_gather (suc n) f zero h = bit_one (f 0) (sym (gather_low n f) ∙ (sym (in_zero (gather f (suc n))) ∙ h))
in_gather (suc n) f (suc l) h =
    in_gather n (λ i. f (suc i)) l (ap (λ x. (x / 2 ^ l) % 2) (sym (gather_half n f)) ∙
    (sym (in_half l (gather f (suc n))) ∙ h))

pub gather_in : (n : ℕ) (f : ℕ → Bool) (l : ℕ) → l < n → f l ≡ true → In l (gather f n)
gather_in zero f l k h = absurd (omega arith)
gather_in (suc n) f zero k h = in_zero (gather f (suc n)) ∙ (gather_low n f ∙ ap (λ b. cond b 1 0) h)
gather_in (suc n) f (suc l) k h =
    in_half l (gather f (suc n)) ∙ (ap (λ x. (x / 2 ^ l) % 2) (gather_half n f) ∙ gather_in n (λ i. f (suc i)) l
    (omega arith) h)

-- Numbers below 2 ^ n with no common bit have no common part.
pub apart_and : (n a b : ℕ) → a < 2 ^ n → ((l : ℕ) → In l a → In l b → ⊥) → bit_and a b ≡ 0
apart_and zero a b k h = let z : a ≡ 0 = omega arith in ap (λ x. bit_and x b) z ∙ and_zero_l b
apart_and (suc n) a b k h =
    and_step a b ∙ omega (
      arith,
      apart_and n (a / 2) (b / 2) (omega (arith, pow-succ' 2 n))
          (λ l x y. h (suc l) (in_half l a ∙ x) (in_half l b ∙ y)),
      low,
    )
  where
    low : min (a % 2) (b % 2) ≡ 0
    low =
        ⊎_elim (λ x. omega arith) (λ x. ⊎_elim (λ y. omega arith)
        (λ y. absurd (h 0 (in_zero a ∙ omega arith) (in_zero b ∙ omega arith))) (cases_lt (b % 2) 1)) (cases_lt (a % 2) 1)

-- Numbers with no common part have no common bit.
pub and_apart : (a b : ℕ) → bit_and a b ≡ 0 → (l : ℕ) → In l a → In l b → ⊥
and_apart a b e l x y = omega (arith, ap (λ z. z / 2 ^ l) e, zero-div (2 ^ l), and_shr a b l, and_step (a / 2 ^ l) (b / 2 ^ l))

-- Numbers below 2 ^ n with the same bits are the same.
pub same_bits : (n a b : ℕ) → a < 2 ^ n → b < 2 ^ n → ((l : ℕ) → In l a → In l b) → ((l : ℕ) → In l b → In l a) → a ≡ b
same_bits zero a b h k to from = omega arith
same_bits (suc n) a b h k to from =
    let half : a / 2 ≡ b / 2 =
    same_bits n (a / 2) (b / 2) (omega (arith, pow-succ' 2 n)) (omega (arith, pow-succ' 2 n))
    (λ l x. sym (in_half l b) ∙ to (suc l) (in_half l a ∙ x)) (λ l x. sym (in_half l a) ∙ from (suc l) (in_half l b ∙ x)) in
    omega (arith, low)
  where
    one_way : (c d : ℕ) → (In 0 c → In 0 d) → c % 2 ≡ 1 → d % 2 ≡ 1
    one_way c d f e = sym (in_zero d) ∙ f (in_zero c ∙ e)

    low : a % 2 ≡ b % 2
    low =
        ⊎_elim
        (λ x. ⊎_elim (λ y. omega arith) (λ y. let z = one_way b a (from 0) (omega arith) in absurd (omega arith)) (cases_lt (b % 2) 1))
        (λ x. let z = one_way a b (to 0) (omega arith) in omega arith)
        (cases_lt (a % 2) 1)
