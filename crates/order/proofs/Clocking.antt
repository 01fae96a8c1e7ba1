-- Clocks as runs, and what a fork and a meet come to.
use Rattle.std.proofs.Common.{◌≡◌, ℕ, ◌+◌, ◌<◌, max, Bool, true, false, cond, ◌||◌, eqb, ltb, Ok, List, [], ◌∷◌, ◌++◌, length, get_or, set, replicate, sym, refl, ap, ◌∙◌, subst, inl, inr, arith}
use Rattle.std.proofs.lemmas.List.{get_or-replicate, get_or_past, length-replicate}
use Rattle.std.proofs.lemmas.Bool.{cases_lt, ltb-true, and_parts}
use Rattle.order.specs.declared.clock.Clock.{Clock}
use Rattle.order.specs.declared.segments.Segment.{Segment}
use Rattle.order.specs.Clock.{seen_of, no_clock, view}
use Rattle.order.specs.Meaning.{upto, forked, met, fork_answer, fork_after, meet_answer, meet_after}
use Rattle.order.specs.Runs.{Runs, runs_meaning, Orderly, End, upto_clock, shut, grown, Room}
use Rattle.order.specs.Segments.{ends_of, known_of, count_of}
use Rattle.order.proofs.Calls.{grows, forks, meets, fork_admits, meet_admits}
use Rattle.order.proofs.Places.{ends_long, length_push, get_or_push, get_or_shut}
use Rattle.order.proofs.Rooms.{past, grown_means, past_grown, past_max, past_upto, upto_bounded, fork_room, new_room, meet_room}
use Rattle.order.proofs.Runs.{shut_orderly, shut_means, grown_orderly}

pub end_of : (s : Runs) (x : ℕ) → (runs_meaning s).ends x ≡ true → End s x
end_of s x t = let p = and_parts (ltb x s.count) (s.ends x) t in (ltb-true x s.count p.0, p.1)

-- ---- a segment closed, and one added

module _ (old new : List (Segment Clock)) where
  pub view_shut : (x : ℕ) → ends_of new ≡ set (ends_of old) x false → known_of new ≡ known_of old
      → view new ≡ shut (view old) x
  view_shut x ends known =
      λ i. record {
        count = length (known i);
        ends = λ a. (ap (λ l. get_or l a false) ends ∙ get_or_shut (ends_of old) x a) i;
        run = λ a. (get_or (known i) a no_clock).run;
        seen = λ b. seen_of (get_or (known i) b no_clock);
      }

  pub view_grown : (k : Clock) → ends_of new ≡ ends_of old ++ true ∷ [] → known_of new ≡ known_of old ++ k ∷ []
      → view new ≡ grown (view old) k.run (seen_of k)
  view_grown k ends known =
      let was = known_of old in
      let n = count_of old in
      let at : (a : ℕ) → get_or (known_of new) a no_clock ≡ cond (eqb a n) k (get_or was a no_clock) =
      λ a. ap (λ l. get_or l a no_clock) known ∙ get_or_push was k no_clock a in
      λ i. record {
        count = (ap length known ∙ length_push was k) i;
        ends = λ a. (ap (λ l. get_or l a false) ends ∙ get_or_push (ends_of old) true false a
            ∙ ap (λ m. cond (eqb a m) true (get_or (ends_of old) a false)) (ends_long old)) i;
        run = λ a. (ap (λ c. c.run) (at a) ∙ run_of (eqb a n) (get_or was a no_clock)) i;
        seen = λ b. (ap seen_of (at b) ∙ inner (eqb b n) (get_or was b no_clock)) i;
      }
    where
      run_of : (t : Bool) (old : Clock) → (cond t k old).run ≡ cond t k.run old.run
      run_of true old = refl
      run_of false old = refl

      inner : (t : Bool) (old : Clock) → seen_of (cond t k old) ≡ cond t (seen_of k) (seen_of old)
      inner true old = refl
      inner false old = refl

-- ---- the same runs by other names

pub grown_at : {s s' : Runs} {r r' : ℕ} {c c' : ℕ → ℕ} → s ≡ s' → r ≡ r' → ((q : ℕ) → c q ≡ c' q) → grown s r c ≡ grown s' r' c'
grown_at es er ec = λ i. grown (es i) (er i) (λ q. ec q i)

-- ---- the calls

pub fresh_orderly : (s : Runs) → s.count ≡ 1 → s.run 0 ≡ 0 → ((q : ℕ) → s.seen 0 q ≡ 0) → Orderly s
fresh_orderly s one run none = record {
  named = λ a l. let z : a ≡ 0 = omega arith in rw z (omega arith);
  bounded = λ b q l. let z : b ≡ 0 = omega arith in rw z (omega (arith, none q));
  apart = λ a b t. omega arith;
  last = λ x a e m.
      let z : x ≡ 0 = omega (arith, e.0) in
      let y : a ≡ 0 = omega (arith, m.0) in
      rw (z, y) (omega arith);
  ahead = λ x b e l. let z : b ≡ 0 = omega arith in rw z (omega (arith, none (s.run x)));
}

pub all_zero : (n q : ℕ) → get_or {A = ℕ} (replicate n 0) q 0 ≡ 0
all_zero n q =
    elim (cases_lt q n) [
      | inl l ↦ get_or-replicate n q 0 0 l
      | inr g ↦ get_or_past (replicate n 0) q 0 (omega (arith, length-replicate {A = ℕ} n 0))
    ]

module _ (s : Runs) (o : Orderly s) (x : ℕ) (end : End s x) where
  pub fork_again : Room (grown (shut s x) (s.run x) (upto_clock s x)) (s.count + 1) (upto_clock s x)
  fork_again =
      new_room (shut s x) (s.run x) (upto_clock s x)
      (grown_orderly (shut s x) (s.run x) (upto_clock s x) (shut_orderly s x o) (fork_room s o x end.0 end.1))
      (upto_bounded s o x end.0)

  pub fork_orderly : Orderly (grown (grown (shut s x) (s.run x) (upto_clock s x)) (s.count + 1) (upto_clock s x))
  fork_orderly =
      let c = upto_clock s x in
      let once = grown_orderly (shut s x) (s.run x) c (shut_orderly s x o) (fork_room s o x end.0 end.1) in
      grown_orderly (grown (shut s x) (s.run x) c) (s.count + 1) c once fork_again

  pub meet_orderly : (y : ℕ) → y < s.count → Orderly (grown (shut s x) (s.run x) (λ q. max (upto_clock s x q) (upto_clock s y q)))
  meet_orderly y ly = grown_orderly (shut s x) (s.run x) _ (shut_orderly s x o) (meet_room s o x y end.0 ly end.1)

  pub fork_means : runs_meaning (grown (grown (shut s x) (s.run x) (upto_clock s x)) (s.count + 1) (upto_clock s x))
      ≡ forked (runs_meaning s) x
  fork_means =
      let c = upto_clock s x in
      let t = shut s x in
      let u = grown t (s.run x) c in
      let seen = past_upto s o x end.0 in
      forks (runs_meaning s) (runs_meaning t) (runs_meaning u) _ x (past t c) (past u c) (shut_means s x)
      (grown_means t (s.run x) c (fork_room s o x end.0 end.1).furthest)
      (grown_means u (s.count + 1) c fork_again.furthest)
      seen (λ a. past_grown t (s.run x) c (fork_room s o x end.0 end.1).furthest a ∙ seen a)

  pub meet_means : (y : ℕ) → y < s.count
      → runs_meaning (grown (shut s x) (s.run x) (λ q. max (upto_clock s x q) (upto_clock s y q))) ≡ met (runs_meaning s) x y
  meet_means y ly =
      let c = λ (q : ℕ). max (upto_clock s x q) (upto_clock s y q) in
      let t = shut s x in
      meets (runs_meaning s) (runs_meaning t) _ x y (past t c) (shut_means s x)
      (grown_means t (s.run x) c (meet_room s o x y end.0 ly end.1).furthest)
      (λ a. past_max s (upto_clock s x) (upto_clock s y) a
      ∙ ap (λ b. b || past s (upto_clock s y) a) (past_upto s o x end.0 a)
      ∙ ap (λ b. upto (runs_meaning s) x a || b) (past_upto s o y ly a))

-- ---- what a call leaves

module _ (s : Runs) (o : Orderly s) where
  pub fork_done : (x n : ℕ) (t : Runs) → fork_answer 127 (runs_meaning s) x ≡ Ok n
      → t ≡ grown (grown (shut s x) (s.run x) (upto_clock s x)) (n + 1) (upto_clock s x)
      → Orderly t × (runs_meaning t ≡ fork_after 127 (runs_meaning s) x)
  fork_done x n t a e =
      let m = runs_meaning s in
      let fit = fork_admits 127 m x n a in
      let end = end_of s x fit.1 in
      let c = upto_clock s x in
      let d = e ∙ ap (λ k. grown (grown (shut s x) (s.run x) c) (k + 1) c) fit.2 in
      (subst Orderly (sym d) (fork_orderly s o x end), ap runs_meaning d ∙ fork_means s o x end ∙ grows _ _ (forked m x) m a)

  pub meet_done : (x y n : ℕ) (t : Runs) → meet_answer 127 (runs_meaning s) x y ≡ Ok n
      → t ≡ grown (shut s x) (s.run x) (λ q. max (upto_clock s x q) (upto_clock s y q))
      → Orderly t × (runs_meaning t ≡ meet_after 127 (runs_meaning s) x y)
  meet_done x y n t a e =
      let m = runs_meaning s in
      let fit = meet_admits 127 m x y n a in
      let end = end_of s x fit.1 in
      let ly = (end_of s y fit.2).0 in
      (subst Orderly (sym e) (meet_orderly s o x end y ly), ap runs_meaning e ∙ meet_means s o x end y ly ∙ grows _ _ (met m x y) m a)
