-- Single bits of a word, and one element set in a list.
use Rattle.std.proofs.Common.{◌≡◌, ℕ, ◌+◌, ◌-◌, ◌*◌, ◌/◌, ◌%◌, ◌^◌, ◌<◌, max, Bool, true, false, cond, ◌||◌, eqb, List, length, get_or, set, sym, refl, ap, ◌∙◌, inl, inr, one-mul, arith}
use native.Mathlib.Nat.{div-eq_of_lt}
use lib.Bits.{bit_or, or_step, or_shr}
use Rattle.std.proofs.lemmas.Nat.{pow-add, shl-shr, pow_below, one_shl}
use Rattle.std.proofs.lemmas.List.{get_or-set_same, get_or-set_other}
use Rattle.std.proofs.lemmas.Bool.{cases_eq, cases_order, eq-eqb, ne_eqb}
use Rattle.std.proofs.lemmas.Bool.Decides.{nat_tests}
use Rattle.order.specs.Bits.{bit}

pub get_or_set : {X : Type 0} (l : List X) (i j : ℕ) (v d : X) → i < length l
    → get_or (set l i v) j d ≡ cond (eqb j i) v (get_or l j d)
get_or_set l i j v d h =
    elim (cases_eq j i) [
      | inl e ↦ rw (eq-eqb j i e) (rw e (get_or-set_same l i v d h))
      | inr ne ↦ rw (ne_eqb j i ne) (get_or-set_other l i j v d ne)
    ]

or_low : (a b : ℕ) → eqb (bit_or a b % 2) 1 ≡ (eqb (a % 2) 1 || eqb (b % 2) 1)
or_low a b = let s : bit_or a b % 2 ≡ max (a % 2) (b % 2) = omega (arith, or_step a b) in rw s (grind (arith, nat_tests))

pub or_bit : (a b k : ℕ) → bit (bit_or a b) k ≡ (bit a k || bit b k)
or_bit a b k = rw (or_shr a b k) (or_low (a / 2 ^ k) (b / 2 ^ k))

above : (k j : ℕ) → j < k → 2 ^ k / 2 ^ j % 2 ≡ 0
above k j h =
    let d = k - j - 1 in
    let e : k ≡ (1 + d) + j = omega arith in
    let p : 2 ^ k ≡ 2 ^ (1 + d) * 2 ^ j = ap (λ n. 2 ^ n) e ∙ pow-add 2 (1 + d) j in
    rw p (rw (shl-shr (2 ^ (1 + d)) j) (omega (arith, pow-add 2 1 d)))

pub power_bit : (k j : ℕ) → bit (2 ^ k) j ≡ eqb j k
power_bit k j =
    elim (cases_order j k) [
      | inl e ↦
          let d : 2 ^ k / 2 ^ j ≡ 1 = rw e (ap (λ n. n / 2 ^ k) (sym (one-mul (2 ^ k))) ∙ shl-shr 1 k) in
          rw d (sym (eq-eqb j k e))
      | inr (inl l) ↦ rw (above k j l) (sym (ne_eqb j k (omega arith)))
      | inr (inr g) ↦
          let z : 2 ^ k / 2 ^ j ≡ 0 = div-eq_of_lt (pow_below k j g) in
          rw z (sym (ne_eqb j k (omega arith)))
    ]

or_flip : (x y : Bool) → (x || y) ≡ (y || x)
or_flip true true = refl
or_flip true false = refl
or_flip false true = refl
or_flip false false = refl

-- Bit j of the words once bit k was set.
pub insert_has : (ws : List ℕ) (k j : ℕ) → k / 64 < length ws
    → bit (get_or (set ws (k / 64) (bit_or (get_or ws (k / 64) 0) ((1 * 2 ^ (k % 64)) % 2 ^ 64))) (j / 64) 0) (j % 64)
    ≡ (eqb j k || bit (get_or ws (j / 64) 0) (j % 64))
insert_has ws k j h =
    let w = get_or ws (k / 64) 0 in
    let shifted = one_shl (k % 64) 64 (omega arith) in
    rw (get_or_set ws (k / 64) (j / 64) (bit_or w ((1 * 2 ^ (k % 64)) % 2 ^ 64)) 0 h)
    (elim (cases_eq (j / 64) (k / 64)) [
      | inl e ↦
          let same : eqb j k ≡ eqb (j % 64) (k % 64) = grind (arith, nat_tests) in
          rw (eq-eqb (j / 64) (k / 64) e, e, shifted, or_bit w (2 ^ (k % 64)) (j % 64), power_bit (k % 64) (j % 64), same)
          (or_flip (bit w (j % 64)) (eqb (j % 64) (k % 64)))
      | inr ne ↦ rw (ne_eqb (j / 64) (k / 64) ne, ne_eqb j k (λ e. ne (ap (λ n. n / 64) e)))
    ])
