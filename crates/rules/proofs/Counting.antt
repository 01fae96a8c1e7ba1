-- The locks of a row after a recording: those that the thread took more often than it gave them up, each once.
-- Assumes nothing.
use Rattle.std.proofs.Common.{◌≡◌, ℕ, ◌+◌, ◌<◌, ◌≤◌, Bool, true, false, cond, not, ◌&&◌, ◌||◌, eqb, Decides, sym, refl, ap, ◌∙◌, subst, ⊎_elim, arith}
use Rattle.std.specs.List.{AllByRecursion}
use Rattle.std.proofs.lemmas.Bool.{not-true, eqb-true, eqb-false, eq-eqb, and_parts, cond_both, lt-ltb, le-ltb, cases_lt}
use Rattle.std.proofs.lemmas.Bool.Decides.{nat_tests, Decides-at, Decides-ltb, Decides-not}
use Rattle.rows.specs.declared.event.Event.TheVariants.{Lock, Release, Start, Join}
use Rattle.recording.specs.Recording.{Recording, none, ◌▸◌}
use Rattle.recording.specs.Halts.{takes, frees, count}
use Rattle.recording.specs.Ledger.{HoldsNow, Accepted}
use Rattle.recording.specs.EdgeList.{holds_now}
use Rattle.recording.proofs.Prefixes.{accepted_init}
use Rattle.recording.proofs.Counts.{took, held_small}
use Rattle.recording.proofs.Members.{all_from}
use Rattle.rules.specs.Rows.{has, taken, given_up}
use Rattle.rules.specs.Behind.{locks_after}
use Rattle.rules.specs.Laws.{LocksAreHeld}
use Rattle.rules.proofs.Locks.{Different, has_tells, has_taken, has_given_up, different_taken, different_kept}

-- How often thread v took lock l, and gave it up.
abbrev took_count : Recording → ℕ → ℕ → ℕ
took_count ρ v l = count (takes v l) (λ p. true) ρ

abbrev freed_count : Recording → ℕ → ℕ → ℕ
freed_count ρ v l = count (frees v l) (λ p. true) ρ

-- It took each lock that it has once more than it gave it up, and any other as often.
abbrev Balanced : ℕ → ℕ → Bool → Type 0
Balanced took freed held = took ≡ freed + cond held 1 0

has_after_lock : (ρ : Recording) (t o v l : ℕ)
    → has (locks_after (ρ ▸ Lock t o) v) l ≡ (has (locks_after ρ v) l || (eqb t v && eqb o l))
has_after_lock ρ t o v l =
    cond_both (eqb v t) (taken o (locks_after ρ v)) (locks_after ρ v)
    (λ k. has k l ≡ (has (locks_after ρ v) l || (eqb t v && eqb o l)))
    (λ e. has_taken (locks_after ρ v) o l ∙ own (eqb-true v t e) (has (locks_after ρ v) l))
    (λ e. other (eqb-false v t e) (has (locks_after ρ v) l))
  where
    own : v ≡ t → (b : Bool) → (b || eqb o l) ≡ (b || (eqb t v && eqb o l))
    own e b = ap (λ c. b || (c && eqb o l)) (sym (eq-eqb t v (sym e)))

    other : (v ≡ t → ⊥) → (b : Bool) → b ≡ (b || (eqb t v && eqb o l))
    other ne b = grind (arith, nat_tests)

has_after_release : (ρ : Recording) (t o v l : ℕ)
    → has (locks_after (ρ ▸ Release t o) v) l ≡ (has (locks_after ρ v) l && not (eqb t v && eqb o l))
has_after_release ρ t o v l =
    cond_both (eqb v t) (given_up o (locks_after ρ v)) (locks_after ρ v)
    (λ k. has k l ≡ (has (locks_after ρ v) l && not (eqb t v && eqb o l)))
    (λ e. has_given_up (locks_after ρ v) o l ∙ own (eqb-true v t e) (has (locks_after ρ v) l))
    (λ e. other (eqb-false v t e) (has (locks_after ρ v) l))
  where
    own : v ≡ t → (b : Bool) → (b && not (eqb o l)) ≡ (b && not (eqb t v && eqb o l))
    own e b = ap (λ c. b && not (c && eqb o l)) (sym (eq-eqb t v (sym e)))

    other : (v ≡ t → ⊥) → (b : Bool) → b ≡ (b && not (eqb t v && eqb o l))
    other ne b = grind (arith, nat_tests)

-- One more lock taken, which was not held.
one_taken : (x h : Bool) (took freed : ℕ) → (x ≡ true → took ≤ freed) → Balanced took freed h
    → Balanced (cond x 1 0 + took) (0 + freed) (h || x)
one_taken true true took freed free b = absurd (omega (arith, free refl))
one_taken true false took freed free b = omega arith
one_taken false true took freed free b = omega arith
one_taken false false took freed free b = omega arith

-- One more lock given up, which was held.
one_freed : (x h : Bool) (took freed : ℕ) → (x ≡ true → freed < took) → Balanced took freed h
    → Balanced (0 + took) (cond x 1 0 + freed) (h && not x)
one_freed true true took freed held b = omega arith
one_freed true false took freed held b = absurd (omega (arith, held refl))
one_freed false true took freed held b = omega arith
one_freed false false took freed held b = omega arith

module _ (ρ : Recording) (t o v l : ℕ) where
  unheld : ((w : ℕ) → HoldsNow ρ w o → ⊥) → (eqb t v && eqb o l) ≡ true → took_count ρ v l ≤ freed_count ρ v l
  unheld free e =
      let q = eqb-true o l (and_parts (eqb t v) (eqb o l) e).1 in
      ⊎_elim (λ h. absurd (free v (subst (λ x. HoldsNow ρ v x) (sym q) h))) (λ k. k)
      (cases_lt (freed_count ρ v l) (took_count ρ v l))

  held : HoldsNow ρ t o → (eqb t v && eqb o l) ≡ true → freed_count ρ v l < took_count ρ v l
  held h e =
      let p = and_parts (eqb t v) (eqb o l) e in
      subst (λ x. HoldsNow ρ v x) (eqb-true o l p.1) (subst (λ w. HoldsNow ρ w o) (eqb-true t v p.0) h)

balanced : (ρ : Recording) → Accepted ρ → (v l : ℕ) → Balanced (took_count ρ v l) (freed_count ρ v l) (has (locks_after ρ v) l)
balanced none acc v l = omega arith
balanced (ρ ▸ Lock t o) acc v l =
    subst (Balanced (took_count (ρ ▸ Lock t o) v l) (freed_count (ρ ▸ Lock t o) v l)) (sym (has_after_lock ρ t o v l))
    (one_taken (eqb t v && eqb o l) (has (locks_after ρ v) l) (took_count ρ v l) (freed_count ρ v l)
    (unheld ρ t o v l acc.1.3) (balanced ρ acc.0 v l))
balanced (ρ ▸ Release t o) acc v l =
    subst (Balanced (took_count (ρ ▸ Release t o) v l) (freed_count (ρ ▸ Release t o) v l)) (sym (has_after_release ρ t o v l))
    (one_freed (eqb t v && eqb o l) (has (locks_after ρ v) l) (took_count ρ v l) (freed_count ρ v l)
    (held ρ t o v l acc.1.3) (balanced ρ acc.0 v l))
balanced (ρ ▸ Start t u) acc v l = omega (arith, balanced ρ acc.0 v l)
balanced (ρ ▸ Join t u) acc v l = omega (arith, balanced ρ acc.0 v l)

pub locks_are_held : LocksAreHeld
locks_are_held ρ acc v l = go (has (locks_after ρ v) l) (balanced ρ acc v l)
  where
    go : (b : Bool) → Balanced (took_count ρ v l) (freed_count ρ v l) b → b ≡ holds_now ρ v l
    go true e = sym (lt-ltb (freed_count ρ v l) (took_count ρ v l) (omega arith))
    go false e = sym (le-ltb (freed_count ρ v l) (took_count ρ v l) (omega arith))

-- The same as a fact.
pub has_held : (ρ : Recording) → Accepted ρ → (v l : ℕ) → Decides (has (locks_after ρ v) l) (HoldsNow ρ v l)
has_held ρ acc v l =
    Decides-at (has (locks_after ρ v) l) (holds_now ρ v l) (locks_are_held ρ acc v l)
    (Decides-ltb (freed_count ρ v l) (took_count ρ v l))

-- Who holds a lock has a number of at most 63, and so has the lock.
pub holder_small : (ρ : Recording) → Accepted ρ → (v l : ℕ) → HoldsNow ρ v l → v ≤ 63
holder_small ρ acc v l h = (accepted_init (took ρ v l h).is acc).1.0

pub locks_different : (ρ : Recording) → Accepted ρ → (v : ℕ) → Different (locks_after ρ v)
locks_different none acc v = tt
locks_different (ρ ▸ Lock t o) acc v =
    let before = locks_different ρ acc.0 v in
    let free : has (locks_after ρ v) o ≡ false = not-true _ ((Decides-not _ (has_held ρ acc.0 v o)).1 (acc.1.3 v)) in
    cond_both (eqb v t) (taken o (locks_after ρ v)) (locks_after ρ v) Different
    (λ _. different_taken (locks_after ρ v) o before free) (λ _. before)
locks_different (ρ ▸ Release t o) acc v =
    let before = locks_different ρ acc.0 v in
    cond_both (eqb v t) (given_up o (locks_after ρ v)) (locks_after ρ v) Different
    (λ _. different_kept (λ x. not (eqb x o)) (locks_after ρ v) before) (λ _. before)
locks_different (ρ ▸ Start t u) acc v = locks_different ρ acc.0 v
locks_different (ρ ▸ Join t u) acc v = locks_different ρ acc.0 v

pub locks_small : (ρ : Recording) → Accepted ρ → (v : ℕ) → AllByRecursion (λ l. l ≤ 63) (locks_after ρ v)
locks_small ρ acc v =
    all_from (λ l. l ≤ 63) (locks_after ρ v)
    (λ l m. held_small ρ acc v l ((has_held ρ acc v l).0 ((has_tells (locks_after ρ v) l).1 m)))
