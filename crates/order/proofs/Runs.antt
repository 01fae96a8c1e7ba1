-- Runs stay orderly as an end is closed and as a segment is added.
use Rattle.std.proofs.Common.{◌≡◌, ℕ, ◌+◌, ◌-◌, ◌<◌, ◌≤◌, eqb, ltb, sym, refl, ◌∙◌, inl, inr, arith}
use Rattle.std.proofs.lemmas.Bool.{cases_eq, eq-eqb, ne_eqb, cond-true, cond-false, false≢true}
use Rattle.order.specs.Meaning.{closed}
use Rattle.order.specs.Runs.{Runs, place, runs_meaning, Orderly, End, shut, grown, Room}
use Rattle.order.proofs.Growing.{shut_test}
use Rattle.order.proofs.Same.{same_meaning}

-- ---- a closed end

pub shut_end : (s : Runs) (x y : ℕ) → End (shut s x) y → End s y × (y ≡ x → ⊥)
shut_end s x y (l, e) =
    elim (cases_eq y x) [
      | inl q ↦ absurd (false≢true (rw (eq-eqb y x q) at e))
      | inr ne ↦ ((l, rw (ne_eqb y x ne) at e), ne)
    ]

pub shut_orderly : (s : Runs) (x : ℕ) → Orderly s → Orderly (shut s x)
shut_orderly s x o = record {
  named = o.named;
  bounded = o.bounded;
  apart = o.apart;
  last = λ y a e m. o.last y a (shut_end s x y e).0 m;
  ahead = λ y b e l. o.ahead y b (shut_end s x y e).0 l;
}

pub shut_means : (s : Runs) (x : ℕ) → runs_meaning (shut s x) ≡ closed (runs_meaning s) x
shut_means s x =
    same_meaning _ (closed (runs_meaning s) x) refl (λ a b. refl)
    (λ a. shut_test (ltb a s.count) (eqb a x) (s.ends a))

-- ---- one more segment

module _ (s : Runs) (r : ℕ) (c : ℕ → ℕ) where
  new_run : (a : ℕ) → a ≡ s.count → (grown s r c).run a ≡ r
  new_run a e = cond-true (eqb a s.count) _ _ (eq-eqb a s.count e)

  pub new_seen : (a q : ℕ) → a ≡ s.count → (grown s r c).seen a q ≡ c q
  new_seen a q e = rw (eq-eqb a s.count e)

  new_place : (a : ℕ) → a ≡ s.count → place (grown s r c) a ≡ c r
  new_place a e = rw (eq-eqb a s.count e)

  old_run : (a : ℕ) → (a ≡ s.count → ⊥) → (grown s r c).run a ≡ s.run a
  old_run a ne = cond-false (eqb a s.count) _ _ (ne_eqb a s.count ne)

  old_seen : (a q : ℕ) → (a ≡ s.count → ⊥) → (grown s r c).seen a q ≡ s.seen a q
  old_seen a q ne = rw (ne_eqb a s.count ne)

  old_place : (a : ℕ) → (a ≡ s.count → ⊥) → place (grown s r c) a ≡ place s a
  old_place a ne = rw (ne_eqb a s.count ne)

  old_end : (a : ℕ) → (a ≡ s.count → ⊥) → End (grown s r c) a → End s a
  old_end a ne (l, e) = (omega arith, rw (ne_eqb a s.count ne) at e)

  module _ (o : Orderly s) (k : Room s r c) where
    grown_named : (a : ℕ) → a < s.count + 1 → (grown s r c).run a ≤ a
    grown_named a l =
        elim (cases_eq a s.count) [
          | inl e ↦ omega (arith, new_run a e, k.named)
          | inr ne ↦ omega (arith, old_run a ne, o.named a (omega arith))
        ]

    grown_bounded : (b q : ℕ) → b < s.count + 1 → (grown s r c).seen b q ≤ b - q
    grown_bounded b q l =
        elim (cases_eq b s.count) [
          | inl e ↦ omega (arith, new_seen b q e, k.bounded q)
          | inr ne ↦ omega (arith, old_seen b q ne, o.bounded b q (omega arith))
        ]

    -- a segment of the run that n joins, at n's place
    clash : (a b : ℕ) → a ≡ s.count → (b ≡ s.count → ⊥) → b < s.count + 1
        → (grown s r c).run b ≡ (grown s r c).run a → place (grown s r c) a ≤ place (grown s r c) b → ⊥
    clash a b e ne l same le =
        let run = sym (old_run b ne) ∙ same ∙ new_run a e in
        omega (arith, k.later b (omega arith) run, new_place a e, old_place b ne)

    grown_apart : (a b : ℕ) → (a < s.count + 1) × (b < s.count + 1) × ((grown s r c).run a ≡ (grown s r c).run b)
        × (place (grown s r c) a ≡ place (grown s r c) b) → a ≡ b
    grown_apart a b (la, lb, run, p) =
        elim (cases_eq a s.count) [
          | inl e ↦ elim (cases_eq b s.count) [
            | inl f ↦ omega arith
            | inr nf ↦ absurd (clash a b e nf lb (sym run) (omega arith))
          ]
          | inr ne ↦ elim (cases_eq b s.count) [
            | inl f ↦ absurd (clash b a f ne la run (omega arith))
            | inr nf ↦ o.apart a b (omega arith, omega arith, sym (old_run a ne) ∙ run ∙ old_run b nf, sym (old_place a ne) ∙ p ∙ old_place b nf)
          ]
        ]

    grown_last : (x a : ℕ) → End (grown s r c) x → (a < s.count + 1) × ((grown s r c).run a ≡ (grown s r c).run x)
        → place (grown s r c) a ≤ place (grown s r c) x
    grown_last x a end (la, run) =
        elim (cases_eq x s.count) [
          | inl e ↦ elim (cases_eq a s.count) [
            | inl f ↦ omega (arith, new_place x e, new_place a f)
            | inr nf ↦ omega (arith, k.later a (omega arith) (sym (old_run a nf) ∙ run ∙ new_run x e), new_place x e, old_place a nf)
          ]
          | inr ne ↦ elim (cases_eq a s.count) [
            | inl f ↦ absurd (k.no_end x (old_end x ne end) (sym (old_run x ne) ∙ sym run ∙ new_run a f))
            | inr nf ↦
                omega (arith, o.last x a (old_end x ne end) (omega arith, sym (old_run a nf) ∙ run ∙ old_run x ne), old_place a nf, old_place x ne)
          ]
        ]

    grown_ahead : (x b : ℕ) → End (grown s r c) x → b < s.count + 1
        → (grown s r c).seen b ((grown s r c).run x) ≤ place (grown s r c) x + 1
    grown_ahead x b end lb =
        elim (cases_eq x s.count) [
          | inl e ↦ rw (eq-eqb x s.count e) (elim (cases_eq b s.count) [
            | inl f ↦ omega (arith, new_seen b r f)
            | inr nf ↦ omega (arith, old_seen b r nf, k.furthest b (omega arith))
          ])
          | inr ne ↦ rw (ne_eqb x s.count ne) (elim (cases_eq b s.count) [
            | inl f ↦ omega (arith, new_seen b (s.run x) f, k.ahead x (old_end x ne end))
            | inr nf ↦ omega (arith, old_seen b (s.run x) nf, o.ahead x b (old_end x ne end) (omega arith))
          ])
        ]

    pub grown_orderly : Orderly (grown s r c)
    grown_orderly =
        record { named = grown_named; bounded = grown_bounded; apart = grown_apart; last = grown_last; ahead = grown_ahead }
