-- The recording behind: the empty one at first, and with each accepted event at its end from there on.
-- Assumes nothing.
use Rattle.std.proofs.Common.{◌≡◌, ℕ, ◌+◌, [], ◌∷◌, length, sym, refl, ap, ◌∙◌, arith}
use Rattle.std.proofs.lemmas.List.{length-set, length-replicate}
use Rattle.std.proofs.lemmas.Bool.{true≢false}
use Rattle.std.proofs.lemmas.Bool.Decides.{Decides-like, Decides-eqb}
use Rattle.sorted_list.proofs.Filling.{all_blank}
use Rattle.order.specs.declared.cause.OrderCause.TheVariants.{End}
use Rattle.order.specs.Meaning.{forked, met}
use Rattle.order.proofs.Histories.{start_lawful}
use Rattle.rows.specs.Edges.{blank_edge}
use Rattle.rows.specs.Orders.{rank_edge}
use Rattle.rows.specs.declared.event.Event.TheVariants.{Lock, Release, Start, Join}
use Rattle.rows.specs.OrderLaws.{edge_order}
use Rattle.recording.specs.Recording.{Recording, ◌▸◌}
use Rattle.recording.specs.Ledger.{life, Allowed}
use Rattle.recording.proofs.Lives.{live≢unborn, live_born}
use Rattle.rules.specs.Rows.{row_at, unborn_row, took, gave_up, started, waited}
use Rattle.rules.specs.Drawing.{edges_from, drawn_into}
use Rattle.rules.specs.Calls.{unless_refused}
use Rattle.rules.specs.States.{State, state, answer, after, recorded}
use Rattle.rules.specs.Behind.{Behind}
use Rattle.rules.specs.Laws.{Room, NothingBehindFresh, EventsAreRecorded, ListsAreRecorded, EndsAreOpen}
use Rattle.rules.proofs.Checking.{start_passes, join_passes}
use Rattle.rules.proofs.Answering.{by_answer, ledger_only, order_ends}
use Rattle.rules.proofs.Rowing.{rows_fresh, rows_took, rows_gave_up, rows_started, rows_waited}
use Rattle.rules.proofs.Segmenting.{tells_forked, ends_forked, tells_met, ends_met}
use Rattle.rules.proofs.Filled.{filled_blank}
use Rattle.rules.proofs.Listing.{list_room, list_drawn}
use Rattle.rules.proofs.Accepting.{row_life, row_segment, acts, end_open, ends_meet, allowed_are_accepted}

pub nothing_behind_fresh : NothingBehindFresh
nothing_behind_fresh places = record {
  accepted = tt;
  size = omega (arith, length-replicate 63 unborn_row);
  rows = rows_fresh;
  edges = refl;
  blanks = all_blank rank_edge edge_order blank_edge places;
  segments = refl;
  tells = start_lawful.told;
  ends = λ x. Decides-like _ (λ e. (0, live≢unborn, sym e)) (λ o. sym o.2) (Decides-eqb x 0);
}

-- ---- the state after an accepted event

module _ (ρ : Recording) (s : State) (b : Behind ρ s) where
  pub behind_lock : (limit t o : ℕ) → Allowed ρ (Lock t o)
      → Room limit (length s.edges.records + length s.edges.free) ρ (Lock t o)
      → Behind (ρ ▸ Lock t o)
      (state (took s.rows t o) (drawn_into s.edges (edges_from (row_at s.rows t) t o)) s.order)
  behind_lock limit t o al room =
      let r = row_at s.rows t in
      let is = b.rows t al.0 in
      record {
        accepted = (b.accepted, al);
        size = length-set s.rows t _ ∙ b.size;
        rows = rows_took ρ s.rows b.size b.rows t o al.0;
        edges = list_drawn ρ b.accepted t o s.edges b.edges r is
            ((list_room ρ b.accepted t o s.edges b.edges r is).1 room);
        blanks = filled_blank s.edges (edges_from r t o) b.blanks;
        segments = b.segments;
        tells = b.tells;
        ends = b.ends;
      }

  pub behind_release : (t o : ℕ) → Allowed ρ (Release t o)
      → Behind (ρ ▸ Release t o) (state (gave_up s.rows t o) s.edges s.order)
  behind_release t o al = record {
    accepted = (b.accepted, al);
    size = length-set s.rows t _ ∙ b.size;
    rows = rows_gave_up ρ s.rows b.size b.rows t o al.0;
    edges = b.edges;
    blanks = b.blanks;
    segments = b.segments;
    tells = b.tells;
    ends = b.ends;
  }

  pub behind_start : (t u : ℕ) → Allowed ρ (Start t u)
      → Behind (ρ ▸ Start t u)
      (state (started s.rows t u s.order.segments) s.edges (forked s.order (row_at s.rows t).segment))
  behind_start t u al =
      let m = s.order in
      let x = (row_at s.rows t).segment in
      let at = row_segment ρ s b t al.0 in
      let other : u ≡ t → ⊥ = λ e. live_born ρ t al.2 (ap (life ρ) (sym e) ∙ al.3) in
      record {
        accepted = (b.accepted, al);
        size = length-set _ u _ ∙ (length-set s.rows t _ ∙ b.size);
        rows = rows_started ρ s.rows b.size b.rows t u m.segments al.0 al.1 b.segments other;
        edges = b.edges;
        blanks = b.blanks;
        segments = omega (arith, b.segments);
        tells = tells_forked ρ b.accepted m b.segments b.tells b.ends t u x al at;
        ends = ends_forked ρ b.accepted m b.segments b.tells b.ends t u x al at;
      }

  pub behind_join : (t u : ℕ) → Allowed ρ (Join t u)
      → Behind (ρ ▸ Join t u)
      (state (waited s.rows t u s.order.segments) s.edges
      (met s.order (row_at s.rows t).segment (row_at s.rows u).segment))
  behind_join t u al =
      let m = s.order in
      let x = (row_at s.rows t).segment in
      let y = (row_at s.rows u).segment in
      let at = row_segment ρ s b t al.0 in
      let it = row_segment ρ s b u al.1 in
      record {
        accepted = (b.accepted, al);
        size = length-set _ u _ ∙ (length-set s.rows t _ ∙ b.size);
        rows = rows_waited ρ s.rows b.size b.rows t u m.segments al.0 al.1 b.segments al.3;
        edges = b.edges;
        blanks = b.blanks;
        segments = omega (arith, b.segments);
        tells = tells_met ρ b.accepted m b.segments b.tells b.ends t u x y al at it;
        ends = ends_met ρ b.accepted m b.segments b.tells b.ends t u x y al at it;
      }

-- ---- any event

pub events_are_recorded : EventsAreRecorded
events_are_recorded limit ρ s b (Lock t o) =
    by_answer (λ a. Behind (unless_refused a (ρ ▸ Lock t o) ρ)
    (state (unless_refused a (took s.rows t o) s.rows)
    (unless_refused a (drawn_into s.edges (edges_from (row_at s.rows t) t o)) s.edges) s.order))
    (answer limit s (Lock t o))
    (λ e. let j = (allowed_are_accepted limit ρ s b (Lock t o)).0 e in behind_lock ρ s b limit t o j.0 j.1) (λ c. b)
events_are_recorded limit ρ s b (Release t o) =
    by_answer (λ a. Behind (unless_refused a (ρ ▸ Release t o) ρ)
    (state (unless_refused a (gave_up s.rows t o) s.rows) s.edges s.order))
    (answer limit s (Release t o))
    (λ e. behind_release ρ s b t o ((allowed_are_accepted limit ρ s b (Release t o)).0 e).0) (λ c. b)
events_are_recorded limit ρ s b (Start t u) =
    by_answer (λ a. Behind (unless_refused a (ρ ▸ Start t u) ρ)
    (state (unless_refused a (started s.rows t u s.order.segments) s.rows) s.edges
    (unless_refused a (forked s.order (row_at s.rows t).segment) s.order)))
    (answer limit s (Start t u))
    (λ e. behind_start ρ s b t u ((allowed_are_accepted limit ρ s b (Start t u)).0 e).0) (λ c. b)
events_are_recorded limit ρ s b (Join t u) =
    by_answer (λ a. Behind (unless_refused a (ρ ▸ Join t u) ρ)
    (state (unless_refused a (waited s.rows t u s.order.segments) s.rows) s.edges
    (unless_refused a (met s.order (row_at s.rows t).segment (row_at s.rows u).segment) s.order)))
    (answer limit s (Join t u))
    (λ e. behind_join ρ s b t u ((allowed_are_accepted limit ρ s b (Join t u)).0 e).0) (λ c. b)

pub lists_are_recorded : ListsAreRecorded
lists_are_recorded limit ρ s b [] = b
lists_are_recorded limit ρ s b (e ∷ es) =
    lists_are_recorded limit (recorded limit s ρ e) (after limit s e) (events_are_recorded limit ρ s b e) es

-- ---- open ends

pub ends_are_open : EndsAreOpen
ends_are_open limit ρ s b (Lock t o) e = ledger_only _ End e
ends_are_open limit ρ s b (Release t o) e = ledger_only _ End e
ends_are_open limit ρ s b (Start t u) e =
    let g = order_ends limit s.order.segments 2 _ _ e in
    let a = (acts ρ s b t u).0 ((start_passes s.rows t u).0 g.0).0 in
    true≢false (sym (end_open ρ s b t a.0 (live_born ρ t a.2)) ∙ g.1)
ends_are_open limit ρ s b (Join t u) e =
    let g = order_ends limit s.order.segments 1 _ _ e in
    let c = (join_passes s.rows t u).0 g.0 in
    let a = (acts ρ s b t u).0 c.0 in
    true≢false (sym (ends_meet ρ s b t u a.0 a.1 (live_born ρ t a.2)
    (λ f. c.2 (row_life ρ s b u a.1 ∙ f)) c.1) ∙ g.1)
