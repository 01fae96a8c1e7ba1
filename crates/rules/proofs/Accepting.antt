-- Where a recording stands behind, an event is accepted exactly when it is allowed after it and there is room.
-- Assumes nothing.
use Rattle.std.proofs.Common.{◌≡◌, ℕ, ◌+◌, ◌≤◌, true, false, not, ◌&&◌, eqb, ◌↔◌, length, Ok, Decides, sym, ap, ◌∙◌, ⊎_elim, arith}
use Rattle.std.proofs.lemmas.List.{get_or_past}
use Rattle.std.proofs.lemmas.Bool.{cases_lt, not-true, not_from_false, ne_eqb, and_from}
use Rattle.std.proofs.lemmas.Bool.Decides.{Decides-at, Decides-not, not_from_Decides}
use Rattle.rows.specs.declared.event.Event.{Event}
use Rattle.rows.specs.declared.event.Event.TheVariants.{Lock, Release, Start, Join}
use Rattle.recording.specs.Recording.{Recording, ◌▸◌}
use Rattle.recording.specs.Ledger.{live, life, HoldsNow, Allowed}
use Rattle.recording.specs.Segments.{segment}
use Rattle.recording.specs.EdgeList.{edge_list}
use Rattle.recording.proofs.Lives.{Born, live_born}
use Rattle.recording.proofs.Numbering.{numbered}
use Rattle.rules.specs.Drawing.{edges_from, crowded}
use Rattle.rules.specs.Rows.{row_at, unborn_row, holds, held_by_some}
use Rattle.rules.specs.States.{State, answer}
use Rattle.rules.specs.Behind.{Behind}
use Rattle.rules.specs.Laws.{Room, AllowedAreAccepted}
use Rattle.rules.proofs.Checking.{Acts, lock_passes, release_passes, start_passes, join_passes}
use Rattle.rules.proofs.Answering.{ledger_accepts, order_accepts}
use Rattle.rules.proofs.Counting.{has_held, holder_small}
use Rattle.rules.proofs.Rowing.{nobody_holds, held_by_nobody}
use Rattle.rules.proofs.Listing.{list_room}

module _ (ρ : Recording) (s : State) (b : Behind ρ s) where
  -- ---- what the rows tell

  pub row_life : (v : ℕ) → v ≤ 63 → (row_at s.rows v).state ≡ life ρ v
  row_life v h = ap (λ r. r.state) (b.rows v h)

  pub row_segment : (v : ℕ) → v ≤ 63 → (row_at s.rows v).segment ≡ segment ρ v
  row_segment v h = ap (λ r. r.segment) (b.rows v h)

  pub row_holds : (v l : ℕ) → v ≤ 63 → Decides (holds (row_at s.rows v) l) (HoldsNow ρ v l)
  row_holds v l h = Decides-at _ _ (ap (λ r. holds r l) (b.rows v h)) (has_held ρ b.accepted v l)

  pub rows_hold : (l : ℕ) → (held_by_some s.rows l ≡ false) ↔ ((v : ℕ) → HoldsNow ρ v l → ⊥)
  rows_hold l = (
    λ e v h. not_from_Decides _ (row_holds v l (holder_small ρ b.accepted v l h)) (nobody_holds s.rows l e v) h,
    λ f. held_by_nobody s.rows l (λ v. ⊎_elim
        (λ low. not-true _ ((Decides-not _ (row_holds v l (omega arith))).1 (f v)))
        (λ high. ap (λ r. holds r l) (get_or_past s.rows v unborn_row (omega (arith, b.size)))) (cases_lt v 64)),
  )

  pub acts : (t x : ℕ) → Acts s.rows t x ↔ ((t ≤ 63) × (x ≤ 63) × (life ρ t ≡ live))
  acts t x = (λ h. (h.0, h.1, sym (row_life t h.0) ∙ h.2), λ h. (h.0, h.1, row_life t h.0 ∙ h.2))

  -- ---- what the order tells

  pub end_open : (v : ℕ) → v ≤ 63 → Born ρ v → s.order.ends (row_at s.rows v).segment ≡ true
  end_open v h c = (b.ends (row_at s.rows v).segment).1 (v, c, sym (row_segment v h))

  pub ends_meet : (t u : ℕ) → t ≤ 63 → u ≤ 63 → Born ρ t → Born ρ u → (u ≡ t → ⊥)
      → let x = (row_at s.rows t).segment in
      let y = (row_at s.rows u).segment in
      (not (eqb x y) && (s.order.ends x && s.order.ends y)) ≡ true
  ends_meet t u h k c d ne =
      let x = (row_at s.rows t).segment in
      let y = (row_at s.rows u).segment in
      let apart : x ≡ y → ⊥ = λ e. ne ((numbered ρ b.accepted).distinct u t d c
      (sym (row_segment u k) ∙ (sym e ∙ row_segment t h))) in
      and_from (not (eqb x y)) (s.order.ends x && s.order.ends y) (not_from_false (eqb x y) (ne_eqb x y apart))
      (and_from (s.order.ends x) (s.order.ends y) (end_open t h c) (end_open u k d))

  -- ---- the four events

  module _ (limit : ℕ) where
    -- The event is accepted exactly when it is allowed and there is room.
    abbrev Judged : Event → Type 0
    Judged e =
        (answer limit s e ≡ Ok tt) ↔ (Allowed ρ e × Room limit (length s.edges.records + length s.edges.free) ρ e)

    lock_judged : (t o : ℕ) → Judged (Lock t o)
    lock_judged t o = (
      λ e.
          let c = (lock_passes s.rows t o s.edges).0 ((ledger_accepts _).0 e) in
          let a = (acts t o).0 c.0 in
          ((a.0, a.1, a.2, (rows_hold o).0 c.2), (room a.0).0 c.3),
      λ h.
          let a = h.0 in
          (ledger_accepts _).1 ((lock_passes s.rows t o s.edges).1 (
            (acts t o).1 (a.0, a.1, a.2),
            not-true _ ((Decides-not _ (row_holds t o a.0)).1 (a.3 t)),
            (rows_hold o).1 a.3,
            (room a.0).1 h.1,
          )),
    )
      where
        room : (low : t ≤ 63) → (crowded s.edges (edges_from (row_at s.rows t) t o) ≡ false)
            ↔ (length (edge_list (ρ ▸ Lock t o)) ≤ length s.edges.records + length s.edges.free)
        room low = list_room ρ b.accepted t o s.edges b.edges (row_at s.rows t) (b.rows t low)

    release_judged : (t o : ℕ) → Judged (Release t o)
    release_judged t o = (
      λ e.
          let c = (release_passes s.rows t o).0 ((ledger_accepts _).0 e) in
          let a = (acts t o).0 c.0 in
          ((a.0, a.1, a.2, (row_holds t o a.0).0 c.1), tt),
      λ h.
          let a = h.0 in
          (ledger_accepts _).1 ((release_passes s.rows t o).1 ((acts t o).1 (a.0, a.1, a.2), (row_holds t o a.0).1 a.3)),
    )

    start_judged : (t u : ℕ) → Judged (Start t u)
    start_judged t u = (
      λ e.
          let g = (order_accepts limit s.order.segments 2 _ _).0 e in
          let c = (start_passes s.rows t u).0 g.0 in
          let a = (acts t u).0 c.0 in
          ((a.0, a.1, a.2, sym (row_life u a.1) ∙ c.1), omega (arith, g.2, b.segments)),
      λ h.
          let a = h.0 in
          (order_accepts limit s.order.segments 2 _ _).1 (
            (start_passes s.rows t u).1 ((acts t u).1 (a.0, a.1, a.2), row_life u a.1 ∙ a.3),
            end_open t a.0 (live_born ρ t a.2),
            omega (arith, h.1, b.segments),
          ),
    )

    join_judged : (t u : ℕ) → Judged (Join t u)
    join_judged t u = (
      λ e.
          let g = (order_accepts limit s.order.segments 1 _ _).0 e in
          let c = (join_passes s.rows t u).0 g.0 in
          let a = (acts t u).0 c.0 in
          ((a.0, a.1, a.2, c.1, λ f. c.2 (row_life u a.1 ∙ f)), omega (arith, g.2, b.segments)),
      λ h.
          let a = h.0 in
          (order_accepts limit s.order.segments 1 _ _).1 (
            (join_passes s.rows t u).1 ((acts t u).1 (a.0, a.1, a.2), a.3, λ f. a.4 (sym (row_life u a.1) ∙ f)),
            ends_meet t u a.0 a.1 (live_born ρ t a.2) a.4 a.3,
            omega (arith, h.1, b.segments),
          ),
    )

pub allowed_are_accepted : AllowedAreAccepted
allowed_are_accepted limit ρ s b (Lock t o) = lock_judged ρ s b limit t o
allowed_are_accepted limit ρ s b (Release t o) = release_judged ρ s b limit t o
allowed_are_accepted limit ρ s b (Start t u) = start_judged ρ s b limit t u
allowed_are_accepted limit ρ s b (Join t u) = join_judged ρ s b limit t u
