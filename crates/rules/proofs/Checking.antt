-- An event passes exactly when every check lets it through.
-- Assumes nothing.
use Rattle.std.proofs.Common.{◌≡◌, ℕ, ◌≤◌, Bool, true, false, eqb, ltb, ◌↔◌, List, Ok, Decides, Result, refl, ap, arith}
use Rattle.std.proofs.lemmas.Bool.{true≢false, false≢true, not-true, not-false, not_from_true, or_parts, or_from, ltb-false, le-ltb, eqb-false, ne_eqb}
use Rattle.std.proofs.lemmas.Bool.Decides.{not_from_Decides, Decides-not}
use Rattle.sorted_list.specs.Lists.{Held}
use Rattle.rows.specs.declared.edge.Edge.{Edge}
use Rattle.rules.specs.declared.cause.LedgerCause.{LedgerCause}
use Rattle.rules.specs.Drawing.{edges_from, crowded}
use Rattle.rules.specs.Rows.{ThreadRow, row_at, is_live, is_unborn, holds, held_by_some}
use Rattle.rules.specs.Calls.{refuse_if, acting, lock_check, release_check, start_check, join_check}
use Rattle.recording.specs.Ledger.{Life, unborn, live, joined}

-- ---- the state of a row

pub live_tells : (r : ThreadRow) → Decides (is_live r) (r.state ≡ live)
live_tells r = (is r.state, λ e. ap (λ l. is_live (record { state = l; segment = r.segment; locks = r.locks })) e)
  where
    is : (l : Life) → is_live (record { state = l; segment = r.segment; locks = r.locks }) ≡ true → l ≡ live
    is unborn h = absurd (false≢true h)
    is live h = refl
    is joined h = absurd (false≢true h)

pub unborn_tells : (r : ThreadRow) → Decides (is_unborn r) (r.state ≡ unborn)
unborn_tells r = (is r.state, λ e. ap (λ l. is_unborn (record { state = l; segment = r.segment; locks = r.locks })) e)
  where
    is : (l : Life) → is_unborn (record { state = l; segment = r.segment; locks = r.locks }) ≡ true → l ≡ unborn
    is unborn h = refl
    is live h = absurd (false≢true h)
    is joined h = absurd (false≢true h)

-- ---- one check, and the checks of every event

pub refuse_passes : (test : Bool) (cause : LedgerCause) (next : Result (Unit {0}) LedgerCause)
    → (refuse_if test cause next ≡ Ok tt) ↔ ((test ≡ false) × (next ≡ Ok tt))
refuse_passes true cause next = (λ e. let z : ◌≡◌ {A = ℕ} 0 1 = cc in absurd (omega arith), λ h. absurd (true≢false h.0))
refuse_passes false cause next = (λ e. (refl, e), λ h. h.1)

module _ (rows : List ThreadRow) (t x : ℕ) where
  -- The numbers are small, and the thread is live.
  abbrev pub Acts : Type 0
  Acts = (t ≤ 63) × (x ≤ 63) × ((row_at rows t).state ≡ live)

  pub acting_passes : (next : Result (Unit {0}) LedgerCause) → (acting rows t x next ≡ Ok tt) ↔ (Acts × (next ≡ Ok tt))
  acting_passes next = (to, from)
    where
      to : acting rows t x next ≡ Ok tt → Acts × (next ≡ Ok tt)
      to e =
          let a = (refuse_passes _ _ _).0 e in
          let n = or_parts (ltb 63 t) (ltb 63 x) a.0 in
          let b = (refuse_passes _ _ _).0 a.1 in
          ((ltb-false 63 t n.0, ltb-false 63 x n.1, (live_tells (row_at rows t)).0 (not-false _ b.0)), b.1)

      from : Acts × (next ≡ Ok tt) → acting rows t x next ≡ Ok tt
      from ((a, b, l), n) =
          (refuse_passes _ _ _).1 (
            or_from (ltb 63 t) (ltb 63 x) (le-ltb 63 t a) (le-ltb 63 x b),
            (refuse_passes _ _ _).1 (not_from_true _ ((live_tells (row_at rows t)).1 l), n),
          )

  -- One more check.
  pub one_passes : (test : Bool) (cause : LedgerCause)
      → (acting rows t x (refuse_if test cause (Ok tt)) ≡ Ok tt) ↔ (Acts × (test ≡ false))
  one_passes test cause = (
    λ e. let a = (acting_passes _).0 e in (a.0, ((refuse_passes _ _ _).0 a.1).0),
    λ h. (acting_passes _).1 (h.0, (refuse_passes _ _ _).1 (h.1, refl)),
  )

  pub lock_passes : (edges : Held Edge) → (lock_check rows edges t x ≡ Ok tt)
      ↔ (Acts × (holds (row_at rows t) x ≡ false) × (held_by_some rows x ≡ false)
      × (crowded edges (edges_from (row_at rows t) t x) ≡ false))
  lock_passes edges = (
    λ e.
        let a = (acting_passes _).0 e in
        let b = (refuse_passes _ _ _).0 a.1 in
        let c = (refuse_passes _ _ _).0 b.1 in
        (a.0, b.0, c.0, ((refuse_passes _ _ _).0 c.1).0),
    λ h. (acting_passes _).1 (
      h.0,
      (refuse_passes _ _ _).1 (h.1, (refuse_passes _ _ _).1 (h.2, (refuse_passes _ _ _).1 (h.3, refl))),
    ),
  )

  pub release_passes : (release_check rows t x ≡ Ok tt) ↔ (Acts × (holds (row_at rows t) x ≡ true))
  release_passes =
      (λ e. let a = (one_passes _ _).0 e in (a.0, not-false _ a.1), λ h. (one_passes _ _).1 (h.0, not_from_true _ h.1))

  pub start_passes : (start_check rows t x ≡ Ok tt) ↔ (Acts × ((row_at rows x).state ≡ unborn))
  start_passes = (
    λ e. let a = (one_passes _ _).0 e in (a.0, (unborn_tells (row_at rows x)).0 (not-false _ a.1)),
    λ h. (one_passes _ _).1 (h.0, not_from_true _ ((unborn_tells (row_at rows x)).1 h.1)),
  )

  pub join_passes : (join_check rows t x ≡ Ok tt) ↔ (Acts × (x ≡ t → ⊥) × ((row_at rows x).state ≡ unborn → ⊥))
  join_passes = (
    λ e.
        let a = (one_passes _ _).0 e in
        let b = or_parts (eqb x t) (is_unborn (row_at rows x)) a.1 in
        (a.0, eqb-false x t b.0, not_from_Decides _ (unborn_tells (row_at rows x)) b.1),
    λ h. (one_passes _ _).1 (
      h.0,
      or_from (eqb x t) (is_unborn (row_at rows x)) (ne_eqb x t h.1)
          (not-true _ ((Decides-not _ (unborn_tells (row_at rows x))).1 h.2)),
    ),
  )
