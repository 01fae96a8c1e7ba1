-- Tests on the numbers of segments as one segment is added.
use Rattle.std.proofs.Common.{◌≡◌, ℕ, ◌+◌, ◌<◌, Bool, true, false, cond, not, ◌&&◌, eqb, ltb, refl, ap, inl, inr, arith}
use Rattle.std.proofs.lemmas.Bool.{cases_eq, eq-eqb, ne_eqb, lt-ltb, or_cases, eqb-true}
use Rattle.std.proofs.lemmas.Bool.Decides.{nat_tests}
use Rattle.order.specs.Meaning.{Meaning, Sound, upto}

pub later : (b n : ℕ) → (b ≡ n → ⊥) → ltb b (n + 1) ≡ ltb b n
later b n ne = grind (arith, nat_tests)

-- What is asked of the new segment n, and of the others as before.
pub one_more : (n b : ℕ) (new old now : Bool) → (b ≡ n → now ≡ new) → ((b ≡ n → ⊥) → now ≡ old)
    → (ltb b (n + 1) && now) ≡ cond (eqb b n) new (ltb b n && old)
one_more n b new old now here there =
    elim (cases_eq b n) [
      | inl e ↦ rw (eq-eqb b n e, lt-ltb b (n + 1) (omega arith), here e)
      | inr ne ↦ rw (ne_eqb b n ne, there ne) (ap (λ t. t && old) (later b n ne))
    ]

pub upto_within : {limit : ℕ} {m : Meaning} → Sound limit m → (x a : ℕ) → x < m.segments → upto m x a ≡ true → a < m.segments
upto_within {limit} {m} s x a h t =
    elim (or_cases (eqb a x) (m.before a x) t) [
      | inl e ↦ omega (arith, eqb-true a x e)
      | inr b ↦ s.precedes a x b
    ]

-- What is asked of a closed end.
pub shut_test : (t e f : Bool) → (t && cond e false f) ≡ (not e && (t && f))
shut_test true true f = refl
shut_test true false f = refl
shut_test false true f = refl
shut_test false false f = refl
