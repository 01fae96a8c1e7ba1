-- What a matrix means once a segment was closed and once one was added, and after the calls.
use Rattle.std.proofs.Common.{◌≡◌, ℕ, ◌<◌, Bool, true, false, ◌&&◌, ◌||◌, ltb, Ok, List, [], ◌∷◌, ◌++◌, length, get_or, set, sym, ap, subst, ◌∙◌, inl, inr, arith}
use Rattle.std.proofs.lemmas.Bool.{cases_eq, eq-eqb, ne_eqb, lt-ltb, or_cases, and_parts, ltb-true}
use Rattle.order.specs.declared.bits.Bits.{Bits}
use Rattle.order.specs.declared.matrix.Matrix.{Matrix}
use Rattle.order.specs.declared.segments.Segment.{Segment}
use Rattle.order.specs.Bits.{has, no_bits}
use Rattle.order.specs.Matrices.{meaning_of, matrix_meaning}
use Rattle.order.specs.Meaning.{Meaning, Sound, upto, closed, opened, forked, met, fork_answer, fork_after, meet_answer, meet_after}
use Rattle.order.specs.Segments.{ends_of, known_of, count_of}
use Rattle.order.proofs.Calls.{grows, fork_admits, meet_admits}
use Rattle.order.proofs.Growing.{one_more, upto_within}
use Rattle.order.proofs.Same.{same_meaning}
use Rattle.order.proofs.Places.{ends_long, length_push, get_or_push, closed_end, opened_end}

module _ (old new : List (Segment Bits)) where
  pub closes : (x : ℕ) → ends_of new ≡ set (ends_of old) x false → known_of new ≡ known_of old
      → meaning_of new ≡ closed (meaning_of old) x
  closes x ends known =
      same_meaning (meaning_of new) (closed (meaning_of old) x) (ap length known)
      (λ a b i. ltb b (length (known i)) && has (get_or (known i) b no_bits) a)
      (λ a. (λ i. ltb a (length (known i)) && get_or (ends i) a false) ∙ closed_end (ends_of old) (count_of old) x a)

  pub opens : (p : Bits) → ends_of new ≡ ends_of old ++ true ∷ [] → known_of new ≡ known_of old ++ p ∷ []
      → meaning_of new ≡ opened (meaning_of old) (has p)
  opens p ends known =
      let was = known_of old in
      let n = count_of old in
      let more = ap length known ∙ length_push was p in
      same_meaning (meaning_of new) (opened (meaning_of old) (has p)) more
      (λ a b. (λ i. ltb b (more i) && has (get_or (known i) b no_bits) a)
      ∙ one_more n b (has p a) (has (get_or was b no_bits) a) _
      (λ q. rw (get_or_push was p no_bits b, eq-eqb b n q))
      (λ ne. rw (get_or_push was p no_bits b, ne_eqb b n ne)))
      (λ a. (λ i. ltb a (more i) && get_or (ends i) a false) ∙ opened_end (ends_of old) n a (ends_long old))

-- ---- numbers rise along the order

abbrev pub Rises : Meaning → Type 0
Rises m = (a b : ℕ) → m.before a b ≡ true → a < b

rises_opened : (m : Meaning) (past : ℕ → Bool) → Rises m → ((a : ℕ) → past a ≡ true → a < m.segments) → Rises (opened m past)
rises_opened m past r below a b =
    elim (cases_eq b m.segments) [
      | inl e ↦ rw (eq-eqb b m.segments e) (λ h. rw e (below a h))
      | inr ne ↦ rw (ne_eqb b m.segments ne) (r a b)
    ]

abbrev pub Earlier : List Bits → Type 0
Earlier pasts = (a b : ℕ) → b < length pasts → has (get_or pasts b no_bits) a ≡ true → a < b

earlier : (places : List (Segment Bits)) → Rises (meaning_of places) → Earlier (known_of places)
earlier places r a b l h = r a b (rw (lt-ltb b (count_of places) l) h)

-- ---- the calls

module _ (m : Matrix) where
  rises : Rises (matrix_meaning m)
  rises a b t = m.earlier a b (ltb-true b _ (and_parts _ _ t).0) (and_parts _ _ t).1

  pub matrix_sound : Sound 256 (matrix_meaning m)
  matrix_sound = record {
    fits = m.segments.within;
    precedes = λ a b t. omega (arith, rises a b t, ltb-true b _ (and_parts _ _ t).0);
    follows = λ a b t. ltb-true b _ (and_parts _ _ t).0;
    stands = λ a t. ltb-true a _ (and_parts _ _ t).0;
  }

  pub fork_done : (x n : ℕ) (places : List (Segment Bits)) → fork_answer 256 (matrix_meaning m) x ≡ Ok n
      → meaning_of places ≡ forked (matrix_meaning m) x
      → Earlier (known_of places) × (meaning_of places ≡ fork_after 256 (matrix_meaning m) x)
  fork_done x n places a e =
      let was = matrix_meaning m in
      let lx = matrix_sound.stands x (fork_admits 256 was x n a).1 in
      let past = upto was x in
      let once = rises_opened (closed was x) past rises (λ b h. upto_within matrix_sound x b lx h) in
      let twice = rises_opened (opened (closed was x) past) past once (λ b h. omega (arith, upto_within matrix_sound x b lx h)) in
      (earlier places (subst Rises (sym e) twice), e ∙ grows _ _ (forked was x) was a)

  pub meet_done : (x y n : ℕ) (places : List (Segment Bits)) → meet_answer 256 (matrix_meaning m) x y ≡ Ok n
      → meaning_of places ≡ met (matrix_meaning m) x y
      → Earlier (known_of places) × (meaning_of places ≡ meet_after 256 (matrix_meaning m) x y)
  meet_done x y n places a e =
      let was = matrix_meaning m in
      let fit = meet_admits 256 was x y n a in
      let below : (z b : ℕ) → was.ends z ≡ true → upto was z b ≡ true → b < was.segments =
      λ z b t. upto_within matrix_sound z b (matrix_sound.stands z t) in
      let once = rises_opened (closed was x) (λ b. upto was x b || upto was y b) rises
      (λ b h. elim (or_cases (upto was x b) (upto was y b) h) [ inl u ↦ below x b fit.1 u | inr u ↦ below y b fit.2 u ]) in
      (earlier places (subst Rises (sym e) once), e ∙ grows _ _ (met was x y) was a)
