-- The set of the held locks, one lock after another.
-- Assumes nothing.
use Rattle.std.proofs.Common.{◌≡◌, ℕ, ◌/◌, ◌%◌, ◌^◌, ◌<◌, ◌≤◌, Bool, eqb, List, [], ◌∷◌, ◌++◌, fold, sym, ap, ◌∙◌, inl, inr, arith, pow_mono, append-nil, append_assoc}
use native.Mathlib.Nat.{div-eq_of_lt}
use lib.Bits.{bit_or}
use Rattle.std.specs.List.{AllByRecursion}
use Rattle.std.proofs.lemmas.Nat.{or_lt, pow_below}
use Rattle.std.proofs.lemmas.Bool.{cases_lt, or_cases, or_left, or_right, eqb-true, eq-eqb}
use Rattle.order.specs.Bits.{bit}
use Rattle.order.proofs.Words.{or_bit, power_bit}
use Rattle.rows.specs.Edges.{In}
use Rattle.recording.specs.EdgeList.{gather}
use Rattle.recording.proofs.Bitsets.{gather_small, in_gather, gather_in, same_bits}
use Rattle.rules.specs.Rows.{has}
use Rattle.ledger.proofs.Locks.{has_push}

-- The set with the lock in it.
abbrev pub with_lock : ℕ → ℕ → ℕ
with_lock locks l = bit_or locks (2 ^ l)

in_below : (n a k : ℕ) → a < 2 ^ n → In k a → k < n
in_below n a k small h = elim (cases_lt k n) [ inl l ↦ l | inr g ↦ absurd (far g) ]
  where
    far : n ≤ k → ⊥
    far g =
        let room : a < 2 ^ k = omega (arith, pow_mono g) in
        let none : a / 2 ^ k ≡ 0 = div-eq_of_lt room in
        omega (arith, ap (λ x. x % 2) none)

or_in_left : (a b k : ℕ) → In k a → In k (bit_or a b)
or_in_left a b k h = eqb-true _ 1 (or_bit a b k ∙ or_left (bit a k) (bit b k) (eq-eqb _ 1 h))

or_in_right : (a b k : ℕ) → In k b → In k (bit_or a b)
or_in_right a b k h = eqb-true _ 1 (or_bit a b k ∙ or_right (bit a k) (bit b k) (eq-eqb _ 1 h))

power_in : (l k : ℕ) → l ≡ k → In k (2 ^ l)
power_in l k e = eqb-true _ 1 (power_bit l k ∙ eq-eqb k l (sym e))

module _ (n : ℕ) (xs : List ℕ) (l : ℕ) (low : l < n) where
  abbrev before : ℕ
  before = gather (has xs) n

  abbrev grown : ℕ → Bool
  grown = has (xs ++ l ∷ [])

  to : (k : ℕ) → In k (gather grown n) → In k (with_lock before l)
  to k h =
      elim (or_cases (has xs k) (eqb l k) (sym (has_push xs l k) ∙ in_gather n grown k h)) [
        | inl e ↦ or_in_left before (2 ^ l) k (gather_in n (has xs) k (in_below n _ k (gather_small n grown) h) e)
        | inr e ↦ or_in_right before (2 ^ l) k (power_in l k (eqb-true l k e))
      ]

  from : (k : ℕ) → In k (with_lock before l) → In k (gather grown n)
  from k h =
      elim (or_cases (bit before k) (bit (2 ^ l) k) (sym (or_bit before (2 ^ l) k) ∙ eq-eqb _ 1 h)) [
        | inl e ↦
            let was = eqb-true _ 1 e in
            gather_in n grown k (in_below n before k (gather_small n (has xs)) was)
            (has_push xs l k ∙ or_left (has xs k) (eqb l k) (in_gather n (has xs) k was))
        | inr e ↦
            let same : k ≡ l = eqb-true k l (sym (power_bit l k) ∙ e) in
            gather_in n grown k (omega arith) (has_push xs l k ∙ or_right (has xs k) (eqb l k) (eq-eqb l k (sym same)))
      ]

  gather_push : gather grown n ≡ with_lock before l
  gather_push =
      same_bits n (gather grown n) (with_lock before l) (gather_small n grown)
      (or_lt n before (2 ^ l) (gather_small n (has xs)) (pow_below l n low)) to from

folded : (ys xs : List ℕ) → AllByRecursion (λ l. l ≤ 63) xs
    → fold with_lock (gather (has ys) 64) xs ≡ gather (has (ys ++ xs)) 64
folded ys [] small = ap (λ zs. gather (has zs) 64) (sym (append-nil ys))
folded ys (x ∷ xs) small =
    ap (λ set. fold with_lock set xs) (sym (gather_push 64 ys x (omega (arith, small.0))))
    ∙ folded (ys ++ x ∷ []) xs small.1 ∙ ap (λ zs. gather (has zs) 64) (append_assoc ys (x ∷ []) xs)

pub folded_gather : (xs : List ℕ) → AllByRecursion (λ l. l ≤ 63) xs → fold with_lock 0 xs ≡ gather (has xs) 64
folded_gather xs small = folded [] xs small
