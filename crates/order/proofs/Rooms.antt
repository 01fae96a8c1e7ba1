-- What a segment that joins a run means, and where one may join.
use Rattle.std.proofs.Common.{◌≡◌, ℕ, ◌+◌, ◌-◌, ◌<◌, ◌≤◌, max, Bool, true, false, cond, ◌&&◌, ◌||◌, eqb, ltb, sym, refl, ap, ◌∙◌, inl, inr, arith}
use Rattle.std.proofs.lemmas.Bool.{cases_eq, cases_lt, eq-eqb, ne_eqb, lt-ltb, le-ltb, cond-true, and_right}
use Rattle.std.proofs.lemmas.Bool.Decides.{nat_tests}
use Rattle.order.specs.Meaning.{upto, opened}
use Rattle.order.specs.Runs.{Runs, place, runs_meaning, Orderly, End, upto_clock, shut, grown, Room}
use Rattle.order.proofs.Growing.{later}
use Rattle.order.proofs.Runs.{shut_end, new_seen}
use Rattle.order.proofs.Same.{same_meaning}

-- What a clock has seen.
abbrev pub past : Runs → (ℕ → ℕ) → ℕ → Bool
past s c a = ltb a s.count && ltb (place s a) (c (s.run a))

-- ---- the meaning of one more segment

module _ (s : Runs) (r : ℕ) (c : ℕ → ℕ) (furthest : (b : ℕ) → b < s.count → s.seen b r ≤ c r) where
  grown_before : (a b : ℕ)
      → (runs_meaning (grown s r c)).before a b ≡ cond (eqb b s.count) (past s c a) ((runs_meaning s).before a b)
  grown_before a b =
      let n = s.count in
      let both = ltb b (n + 1) in
      elim (cases_eq a n) [
        | inl e ↦ elim (cases_eq b n) [
          | inl f ↦ rw (eq-eqb a n e, eq-eqb b n f, le-ltb a n (omega arith), le-ltb (c r) (c r) (omega arith))
              (and_right (ltb a (n + 1)) (both && false) (and_right both false refl))
          | inr nf ↦ rw (eq-eqb a n e, ne_eqb b n nf, le-ltb a n (omega arith)) (elim (cases_lt b n) [
            | inl l ↦ rw (le-ltb (c r) (s.seen b r) (furthest b l))
                (and_right (ltb a (n + 1)) (both && false) (and_right both false refl))
            | inr g ↦ rw (le-ltb b (n + 1) (omega arith)) (and_right (ltb a (n + 1)) false refl)
          ])
        ]
        | inr ne ↦ elim (cases_eq b n) [
          | inl f ↦ rw (ne_eqb a n ne, eq-eqb b n f, later a n ne, lt-ltb b (n + 1) (omega arith))
          | inr nf ↦ rw (ne_eqb a n ne, ne_eqb b n nf, later a n ne, later b n nf)
        ]
      ]

  pub grown_means : runs_meaning (grown s r c) ≡ opened (runs_meaning s) (past s c)
  grown_means = same_meaning _ (opened (runs_meaning s) (past s c)) refl grown_before (λ a. grind (arith, nat_tests))

  -- The new segment is not among what its clock has seen.
  pub past_grown : (a : ℕ) → past (grown s r c) c a ≡ past s c a
  past_grown a =
      let n = s.count in
      elim (cases_eq a n) [
        | inl e ↦ rw (eq-eqb a n e, le-ltb a n (omega arith), le-ltb (c r) (c r) (omega arith)) (and_right (ltb a (n + 1)) false refl)
        | inr ne ↦ rw (ne_eqb a n ne, later a n ne)
      ]

pub past_max : (s : Runs) (c d : ℕ → ℕ) (a : ℕ) → past s (λ q. max (c q) (d q)) a ≡ (past s c a || past s d a)
past_max s c d a = either (ltb a s.count) (place s a) (c (s.run a)) (d (s.run a))
  where
    either : (t : Bool) (p u v : ℕ) → (t && ltb p (max u v)) ≡ ((t && ltb p u) || (t && ltb p v))
    either true p u v = grind (arith, nat_tests)
    either false p u v = refl

module _ (s : Runs) (o : Orderly s) (x : ℕ) (lx : x < s.count) where
  -- ---- x's clock once x was seen

  own : upto_clock s x (s.run x) ≡ place s x + 1
  own = cond-true (eqb (s.run x) (s.run x)) _ _ (eq-eqb (s.run x) (s.run x) refl)

  pub upto_bounded : (q : ℕ) → upto_clock s x q ≤ s.count - q
  upto_bounded q =
      elim (cases_eq q (s.run x)) [
        | inl e ↦ rw (eq-eqb q (s.run x) e) (omega (arith, o.bounded x q lx, o.named x lx))
        | inr ne ↦ rw (ne_eqb q (s.run x) ne) (omega (arith, o.bounded x q lx))
      ]

  pub upto_ahead : (z : ℕ) → End s z → upto_clock s x (s.run z) ≤ place s z + 1
  upto_ahead z end =
      elim (cases_eq (s.run z) (s.run x)) [
        | inl e ↦ rw (eq-eqb (s.run z) (s.run x) e) (omega (arith, o.last z x end (lx, sym e), ap (s.seen x) e))
        | inr ne ↦ rw (ne_eqb (s.run z) (s.run x) ne) (o.ahead z x end lx)
      ]

  same_run : (a : ℕ) → a < s.count → s.run a ≡ s.run x
      → ltb (place s a) (s.seen x (s.run a) + 1) ≡ (eqb a x || ltb (place s a) (s.seen x (s.run a)))
  same_run a l e =
      elim (cases_eq a x) [
        | inl f ↦
            let p : place s a ≡ s.seen x (s.run a) = ap (λ w. s.seen w (s.run a)) f in
            rw (eq-eqb a x f, lt-ltb (place s a) (s.seen x (s.run a) + 1) (omega arith))
        | inr nf ↦ rw (ne_eqb a x nf)
            (later (place s a) (s.seen x (s.run a)) (λ p. nf (o.apart a x (l, lx, e, p ∙ ap (s.seen x) e))))
      ]

  pub past_upto : (a : ℕ) → past s (upto_clock s x) a ≡ upto (runs_meaning s) x a
  past_upto a =
      let n = s.count in
      elim (cases_lt a n) [
        | inl l ↦ rw (lt-ltb a n l, lt-ltb x n lx) (elim (cases_eq (s.run a) (s.run x)) [
          | inl e ↦ rw (eq-eqb (s.run a) (s.run x) e) (same_run a l e)
          | inr ne ↦ rw (ne_eqb (s.run a) (s.run x) ne, ne_eqb a x (λ f. ne (ap s.run f)))
        ])
        | inr g ↦ rw (le-ltb a n g, ne_eqb a x (omega arith))
      ]

  -- ---- room in the run of an open end, once that is closed

  pub joins : (c : ℕ → ℕ) → s.ends x ≡ true → ((q : ℕ) → c q ≤ s.count - q) → place s x < c (s.run x)
      → ((z : ℕ) → End s z → c (s.run z) ≤ place s z + 1) → Room (shut s x) (s.run x) c
  joins c open_x bounded beyond ahead = record {
    named = omega (arith, o.named x lx);
    bounded = bounded;
    later = λ a l run. omega (arith, o.last x a (lx, open_x) (l, run));
    no_end = λ a e run.
        let f = shut_end s x a e in
        f.1 (o.apart a x (f.0.0, lx, run, level a f.0 run));
    furthest = λ b l. omega (arith, o.ahead x b (lx, open_x) l);
    ahead = λ y e. ahead y (shut_end s x y e).0;
  }
    where
      level : (a : ℕ) → End s a → s.run a ≡ s.run x → place s a ≡ place s x
      level a e run = omega (arith, o.last x a (lx, open_x) (e.0, run), o.last a x e (lx, sym run))

  pub fork_room : s.ends x ≡ true → Room (shut s x) (s.run x) (upto_clock s x)
  fork_room e = joins (upto_clock s x) e upto_bounded (omega (arith, own)) upto_ahead

-- Room for a run that begins with the next segment.
pub new_room : (s : Runs) (r : ℕ) (c : ℕ → ℕ) → Orderly (grown s r c) → ((q : ℕ) → c q ≤ s.count - q)
    → Room (grown s r c) (s.count + 1) c
new_room s r c o bounded = record {
  named = omega arith;
  bounded = λ q. omega (arith, bounded q);
  later = λ a l run. absurd (omega (arith, o.named a l));
  no_end = λ a e run. omega (arith, o.named a e.0, e.0);
  furthest = λ b l. omega (arith, o.bounded b (s.count + 1) l);
  ahead = λ y e. omega (arith, o.ahead y s.count e (omega arith), new_seen s r c s.count ((grown s r c).run y) refl);
}

pub meet_room : (s : Runs) → Orderly s → (x y : ℕ) → x < s.count → y < s.count → s.ends x ≡ true
    → Room (shut s x) (s.run x) (λ q. max (upto_clock s x q) (upto_clock s y q))
meet_room s o x y lx ly e =
    joins s o x lx (λ q. max (upto_clock s x q) (upto_clock s y q)) e
    (λ q. omega (arith, upto_bounded s o x lx q, upto_bounded s o y ly q))
    (omega (arith, own s o x lx))
    (λ z f. omega (arith, upto_ahead s o x lx z f, upto_ahead s o y ly z f))
