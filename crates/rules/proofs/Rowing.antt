-- The rows after an event are those of the recording with the event at its end.
-- Assumes nothing.
use Rattle.std.proofs.Common.{◌≡◌, ℕ, zero, suc, ◌+◌, ◌<◌, ◌≤◌, false, cond, eqb, List, [], ◌∷◌, length, set, sym, refl, ap, ◌∙◌, ⊎_elim, arith}
use Rattle.std.proofs.lemmas.List.{length-set, get_or-set_same, get_or-set_other, get_or-replicate}
use Rattle.std.proofs.lemmas.Bool.{cases_eq, cond-true, cond-false, eq-eqb, ne_eqb, or_parts, or_from}
use Rattle.rows.specs.declared.event.Event.TheVariants.{Lock, Release, Start, Join}
use Rattle.recording.specs.Recording.{Recording, none, ◌▸◌}
use Rattle.recording.specs.Ledger.{unborn, live, life}
use Rattle.recording.specs.Segments.{next, segment}
use Rattle.recording.proofs.Lives.{life_started, life_start_other, life_joined, life_join_other}
use Rattle.recording.proofs.Numbering.{on_start, on_join}
use Rattle.rules.specs.Rows.{
  ThreadRow,
  unborn_row,
  fresh_rows,
  row_at,
  holds,
  held_by_some,
  with_locks,
  taken,
  given_up,
  in_segment,
  took,
  gave_up,
  started,
  waited,
}
use Rattle.rules.specs.Behind.{locks_after, row_after}

pub same_row : {r q : ThreadRow} → r.state ≡ q.state → r.segment ≡ q.segment → r.locks ≡ q.locks → r ≡ q
same_row a b c = λ i. record { state = a i; segment = b i; locks = c i }

-- A row where one was written: the new one there, and the old one elsewhere.
pub row_set : (rows : List ThreadRow) (t : ℕ) (r : ThreadRow) (v : ℕ) (q : ThreadRow) → t < length rows
    → (v ≡ t → r ≡ q) → ((v ≡ t → ⊥) → row_at rows v ≡ q) → row_at (set rows t r) v ≡ q
row_set rows t r v q h here there =
    ⊎_elim (λ e. ap (row_at (set rows t r)) e ∙ get_or-set_same rows t r unborn_row h ∙ here e)
    (λ ne. get_or-set_other rows t v r unborn_row ne ∙ there ne) (cases_eq v t)

module _ (ρ : Recording) (rows : List ThreadRow) (size : length rows ≡ 64)
    (known : (v : ℕ) → v ≤ 63 → row_at rows v ≡ row_after ρ v) where
  -- The row of a thread, by either of two names.
  row_of : (t v : ℕ) → v ≤ 63 → v ≡ t → row_at rows t ≡ row_after ρ v
  row_of t v h e = ap (row_at rows) (sym e) ∙ known v h

  -- t's locks change.
  locks_set : (f : List ℕ → List ℕ) (t : ℕ) → t ≤ 63 → (v : ℕ) → v ≤ 63
      → row_at (set rows t (with_locks (f (row_at rows t).locks) (row_at rows t))) v
      ≡ record { state = life ρ v; segment = segment ρ v; locks = cond (eqb v t) (f (locks_after ρ v)) (locks_after ρ v) }
  locks_set f t low v h =
      row_set rows t _ v _ (omega arith)
      (λ e. let k = row_of t v h e in
      same_row (ap (λ r. r.state) k) (ap (λ r. r.segment) k)
      (ap (λ r. f r.locks) k ∙ sym (cond-true (eqb v t) (f (locks_after ρ v)) (locks_after ρ v) (eq-eqb v t e))))
      (λ ne. known v h ∙ same_row refl refl (sym (cond-false (eqb v t) (f (locks_after ρ v)) (locks_after ρ v) (ne_eqb v t ne))))

  pub rows_took : (t o : ℕ) → t ≤ 63 → (v : ℕ) → v ≤ 63 → row_at (took rows t o) v ≡ row_after (ρ ▸ Lock t o) v
  rows_took t o = locks_set (taken o) t

  pub rows_gave_up : (t o : ℕ) → t ≤ 63 → (v : ℕ) → v ≤ 63 → row_at (gave_up rows t o) v ≡ row_after (ρ ▸ Release t o) v
  rows_gave_up t o = locks_set (given_up o) t

  module _ (t u n : ℕ) (low : t ≤ 63) (small : u ≤ 63) (free : n ≡ next ρ) where
    pub rows_started : (u ≡ t → ⊥) → (v : ℕ) → v ≤ 63 → row_at (started rows t u n) v ≡ row_after (ρ ▸ Start t u) v
    rows_started other v h =
        row_set (set rows t (in_segment n (row_at rows t))) u _ v (row_after (ρ ▸ Start t u) v)
        (omega (arith, length-set rows t (in_segment n (row_at rows t))))
        (λ e. same_row (sym (life_started ρ t u) ∙ ap (life (ρ ▸ Start t u)) (sym e))
        (on_start ρ t u v (λ x. n + 1 ≡ x) (λ f. absurd (other (sym e ∙ f))) (λ _. ap (λ x. x + 1) free) (λ _ nu. absurd (nu e)))
        (ap (λ r. r.locks) (row_of u v h e)))
        (λ nu. row_set rows t _ v (row_after (ρ ▸ Start t u) v) (omega arith)
        (λ e. let k = row_of t v h e in
        same_row (ap (λ r. r.state) k ∙ sym (life_start_other ρ t u v nu))
        (on_start ρ t u v (λ x. n ≡ x) (λ _. free) (λ f. absurd (nu f)) (λ nt _. absurd (nt e))) (ap (λ r. r.locks) k))
        (λ nt. known v h ∙ same_row (sym (life_start_other ρ t u v nu))
        (on_start ρ t u v (λ x. segment ρ v ≡ x) (λ e. absurd (nt e)) (λ e. absurd (nu e)) (λ _ _. refl)) refl))

    pub rows_waited : (u ≡ t → ⊥) → (v : ℕ) → v ≤ 63 → row_at (waited rows t u n) v ≡ row_after (ρ ▸ Join t u) v
    rows_waited other v h =
        row_set (set rows t (in_segment n (row_at rows t))) u _ v (row_after (ρ ▸ Join t u) v)
        (omega (arith, length-set rows t (in_segment n (row_at rows t))))
        (λ e. let k = row_of u v h e in
        same_row (sym (life_joined ρ t u) ∙ ap (life (ρ ▸ Join t u)) (sym e))
        (ap (λ r. r.segment) k ∙ on_join ρ t u v (λ x. segment ρ v ≡ x) (λ f. absurd (other (sym e ∙ f))) (λ _. refl))
        (ap (λ r. r.locks) k))
        (λ nu. row_set rows t _ v (row_after (ρ ▸ Join t u) v) (omega arith)
        (λ e. let k = row_of t v h e in
        same_row (ap (λ r. r.state) k ∙ sym (life_join_other ρ t u v nu))
        (on_join ρ t u v (λ x. n ≡ x) (λ _. free) (λ nt. absurd (nt e))) (ap (λ r. r.locks) k))
        (λ nt. known v h ∙ same_row (sym (life_join_other ρ t u v nu))
        (on_join ρ t u v (λ x. segment ρ v ≡ x) (λ e. absurd (nt e)) (λ _. refl)) refl))

-- ---- the fresh rows

pub rows_fresh : (v : ℕ) → v ≤ 63 → row_at fresh_rows v ≡ row_after none v
rows_fresh zero h = refl
rows_fresh (suc v) h =
    get_or-replicate 63 v unborn_row unborn_row (omega arith)
    ∙ same_row (sym (cond-false (eqb (suc v) 0) live unborn (ne_eqb (suc v) 0 (λ e. omega arith)))) refl refl

-- ---- who holds a lock

pub nobody_holds : (rows : List ThreadRow) (l : ℕ) → held_by_some rows l ≡ false → (v : ℕ) → holds (row_at rows v) l ≡ false
nobody_holds [] l h v = refl
nobody_holds (r ∷ rows) l h zero = (or_parts (holds r l) (held_by_some rows l) h).0
nobody_holds (r ∷ rows) l h (suc v) = nobody_holds rows l (or_parts (holds r l) (held_by_some rows l) h).1 v

pub held_by_nobody : (rows : List ThreadRow) (l : ℕ) → ((v : ℕ) → holds (row_at rows v) l ≡ false) → held_by_some rows l ≡ false
held_by_nobody [] l h = refl
held_by_nobody (r ∷ rows) l h = or_from (holds r l) (held_by_some rows l) (h 0) (held_by_nobody rows l (λ v. h (suc v)))
