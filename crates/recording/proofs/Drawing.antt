-- The list of a recording's edges has those that it drew, and ascends.
-- Assumes nothing.
use Rattle.std.proofs.Common.{◌≡◌, ℕ, true, not, ◌&&◌, leb, refl, subst, inl, inr, ⊎_elim, arith}
use mathlib.Core.List.Memᴰ
use mathlib.Core.List.{
  Memᴰ,
}
use Rattle.std.proofs.lemmas.Bool.{le-leb, eq-eqb, ne_eqb, and_from, not_from_false}
use Rattle.sorted_list.proofs.Members.{once_from_ascending}
use Rattle.rows.specs.Edges.{in_set, in_range, is_edge, IsEdge, blank_edge}
use Rattle.rows.specs.Orders.{rank_edge}
use Rattle.rows.specs.declared.edge.Edge.{Edge}
use Rattle.rows.specs.declared.event.Event.{Event}
use Rattle.rows.specs.declared.event.Event.TheVariants.{Lock, Release, Start, Join}
use Rattle.rows.specs.OrderLaws.{edge_order, edge_same}
use Rattle.recording.specs.Recording.{Recording, none, ◌▸◌, size}
use Rattle.recording.specs.Ledger.{Accepted}
use Rattle.recording.specs.Edges.{Draws, DrawnAt, Drawn}
use Rattle.recording.specs.EdgeList.{holds_now, passing, edge_drawn, edges_drawn, all_drawn, edge_list, EdgesAreListed}
use Rattle.recording.proofs.Prefixes.{⊑_init, accepted_init}
use Rattle.recording.proofs.Counts.{held_small}
use Rattle.recording.proofs.Guards.{passing_in, passing_out, holds_test, test_holds, guards_gathered, guards_same}
use Rattle.recording.proofs.Standing.{Spot, spot}
use Rattle.recording.proofs.Sorting.{sorted_ascends, sorted_only, sorted_all}

-- ---- drawn edges are listed, and no other

draws_in : (ρ : Recording) → Accepted ρ → (a : Event) (e : Edge) → Draws ρ a e → Memᴰ e (edges_drawn ρ a)
draws_in ρ acc (Lock t o) e (thread, wanted, held, guards, seg) =
    let g = guards_same ρ acc t e.guards guards in
    let same : e ≡ edge_drawn ρ t o e.held =
    (λ i. record { thread = thread i; held = e.held; wanted = wanted i; guards = g i; segment = seg i }) in
    Memᴰ.cast same (Memᴰ.map (edge_drawn ρ t o)
    (passing_in (holds_now ρ t) 64 e.held (omega (arith, held_small ρ acc t e.held held)) (holds_test ρ acc t e.held held)))
draws_in ρ acc (Release t o) e d = absurd d
draws_in ρ acc (Start t u) e d = absurd d
draws_in ρ acc (Join t u) e d = absurd d

draws_out : (ρ : Recording) → Accepted ρ → (a : Event) (e : Edge) → Memᴰ e (edges_drawn ρ a) → Draws ρ a e
draws_out ρ acc (Lock t o) e m =
    let w = Memᴰ.of_map (edge_drawn ρ t o) (passing (holds_now ρ t) 64) m in
    subst (Draws ρ (Lock t o)) w.2
    (refl, refl, test_holds ρ acc t w.0 (passing_out (holds_now ρ t) 64 w.0 w.1), guards_gathered ρ acc t, refl)
draws_out ρ acc (Release t o) e m = absurd (Memᴰ.not-nil m)
draws_out ρ acc (Start t u) e m = absurd (Memᴰ.not-nil m)
draws_out ρ acc (Join t u) e m = absurd (Memᴰ.not-nil m)

listed : (ρ : Recording) → Accepted ρ → (p : ℕ) (e : Edge) → DrawnAt ρ p e → Memᴰ e (all_drawn ρ)
listed none acc p e d = absurd d
listed (ρ ▸ a) acc p e (inl d) = Memᴰ.append_left (all_drawn ρ) (draws_in ρ acc.0 a e d.1)
listed (ρ ▸ a) acc p e (inr d) = Memᴰ.append_right (edges_drawn ρ a) (listed ρ acc.0 p e d)

unlisted : (ρ : Recording) → Accepted ρ → (e : Edge) → Memᴰ e (all_drawn ρ) → Drawn ρ e
unlisted none acc e m = absurd (Memᴰ.not-nil m)
unlisted (ρ ▸ a) acc e m =
    ⊎_elim (λ n. (size ρ, inl (refl, draws_out ρ acc.0 a e n))) (λ n. let d = unlisted ρ acc.0 e n in (d.0, inr d.1))
    (Memᴰ.append_cases (edges_drawn ρ a) m)

-- ---- drawn edges are edges

pub drawn_spot : (ρ : Recording) (e : Edge) → Drawn ρ e → Spot ρ (λ p. Unit {0}) e
drawn_spot ρ e d = spot ρ (λ p. Unit {0}) e (d.0, tt, d.1)

pub drawn_is_edge : (ρ : Recording) → Accepted ρ → (e : Edge) → Drawn ρ e → IsEdge e
drawn_is_edge ρ acc e d =
    let s = drawn_spot ρ e d in
    let allowed = (accepted_init s.is acc).1 in
    record {
      thread = allowed.0;
      held = held_small s.before (accepted_init (⊑_init s.is) acc) e.thread e.held s.holds;
      wanted = allowed.1;
      holds = (s.guards.1 e.held).1 s.holds;
      wants = λ i. allowed.3 e.thread ((s.guards.1 e.wanted).0 i);
    }

-- The test passes what is an edge.
pub edge_passes : (e : Edge) → IsEdge e → is_edge e ≡ true
edge_passes e h =
    and_from (in_range e) (in_set e.held e.guards && not (in_set e.wanted e.guards))
    (and_from (leb e.thread 63) (leb e.held 63 && leb e.wanted 63) (le-leb e.thread 63 h.thread)
    (and_from (leb e.held 63) (leb e.wanted 63) (le-leb e.held 63 h.held) (le-leb e.wanted 63 h.wanted)))
    (and_from (in_set e.held e.guards) (not (in_set e.wanted e.guards)) (eq-eqb _ _ h.holds)
    (not_from_false (in_set e.wanted e.guards) (ne_eqb _ _ h.wants)))

pub edges_are_listed : EdgesAreListed
edges_are_listed ρ acc =
    let only = λ (e : Edge) (m : Memᴰ e (edge_list ρ)). unlisted ρ acc e
    (sorted_only rank_edge edge_order blank_edge (all_drawn ρ) e m) in
    let up = sorted_ascends rank_edge edge_order blank_edge (all_drawn ρ) in
    record {
      members = λ e. (
        only e,
        λ d. sorted_all rank_edge edge_order blank_edge (all_drawn ρ) edge_same e (listed ρ acc d.0 e d.1),
      );
      each = λ e m. drawn_is_edge ρ acc e (only e m);
      ascends = up;
      once = once_from_ascending edge_order (edge_list ρ) up;
    }
