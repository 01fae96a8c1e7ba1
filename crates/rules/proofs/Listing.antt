-- The edges of a lock event, drawn from the row, are those that the recording draws.
-- Assumes nothing.
use Rattle.std.proofs.Common.{◌≡◌, ℕ, ◌+◌, ◌≤◌, false, ltb, ◌⊎◌, ◌↔◌, List, [], ◌∷◌, map, length, sym, ap, ◌∙◌, subst, inl, inr, ⊎_elim, arith}
use mathlib.Core.Path.{fun_ext}
use mathlib.Core.List.Memᴰ
use mathlib.Core.List.{Memᴰ}
use Rattle.std.proofs.ByRecursion.{All-map, All-weaker}
use Rattle.std.proofs.lemmas.Bool.{ltb-false, le-ltb}
use Rattle.sorted_list.specs.Lists.{Held}
use Rattle.sorted_list.specs.Laws.{Ascending}
use Rattle.rows.specs.Edges.{blank_edge}
use Rattle.rows.specs.Orders.{rank_edge}
use Rattle.rows.specs.declared.edge.Edge.{Edge}
use Rattle.rows.specs.declared.event.Event.TheVariants.{Lock}
use Rattle.rows.specs.OrderLaws.{edge_order, edge_same}
use Rattle.recording.specs.Recording.{Recording, ◌▸◌}
use Rattle.recording.specs.Ledger.{Accepted}
use Rattle.recording.specs.Segments.{segment}
use Rattle.recording.specs.EdgeList.{holds_now, passing, gather, edge_drawn, edges_drawn, all_drawn, edge_list}
use Rattle.recording.proofs.Counts.{held_small}
use Rattle.recording.proofs.Guards.{passing_in, passing_out, test_holds}
use Rattle.recording.proofs.Sorting.{sorted_ascends, sorted_only, sorted_all}
use Rattle.rules.specs.Rows.{ThreadRow, holds}
use Rattle.rules.specs.Drawing.{edge_from, edges_from, new_among, crowded, drawn_into}
use Rattle.rules.specs.Behind.{locks_after, row_after}
use Rattle.rules.proofs.Locks.{Different, has_tells}
use Rattle.rules.proofs.Counting.{locks_are_held, locks_different}
use Rattle.rules.proofs.Filled.{AllDiffer, filled_is, new_count}

-- ---- edges of one row

pairwise_map : (f : ℕ → Edge) → ((h k : ℕ) → f h ≡ f k → h ≡ k) → (ls : List ℕ) → Different ls → AllDiffer (map f ls)
pairwise_map f same [] d = tt
pairwise_map f same (l ∷ ls) d = (
  All-map (λ e. f l ≡ e → ⊥) f ls (All-weaker (λ k. l ≡ k → ⊥) (λ k. f l ≡ f k → ⊥) (λ k ne e. ne (same l k e)) ls d.0),
  pairwise_map f same ls d.1,
)

pub edges_differ : (r : ThreadRow) (t o : ℕ) → Different r.locks → AllDiffer (edges_from r t o)
edges_differ r t o d = pairwise_map (edge_from r t o) (λ h k e. ap (λ (f : Edge). f.held) e) r.locks d

pub list_ascends : (ρ : Recording) → Ascending rank_edge (edge_list ρ)
list_ascends ρ = sorted_ascends rank_edge edge_order blank_edge (all_drawn ρ)

module _ (ρ : Recording) (acc : Accepted ρ) (t o : ℕ) where
  pub same_guards : gather (holds (row_after ρ t)) 64 ≡ gather (holds_now ρ t) 64
  same_guards = ap (λ f. gather f 64) (fun_ext (locks_are_held ρ acc t))

  same_edge : (h : ℕ) → edge_from (row_after ρ t) t o h ≡ edge_drawn ρ t o h
  same_edge h = λ i. record { thread = t; held = h; wanted = o; guards = same_guards i; segment = segment ρ t }

  from_row : (x : Edge) → Memᴰ x (edges_from (row_after ρ t) t o) → Memᴰ x (edges_drawn ρ (Lock t o))
  from_row x m =
      let w = Memᴰ.of_map (edge_from (row_after ρ t) t o) (locks_after ρ t) m in
      let held = sym (locks_are_held ρ acc t w.0) ∙ (has_tells (locks_after ρ t) w.0).1 w.1 in
      let small = held_small ρ acc t w.0 (test_holds ρ acc t w.0 held) in
      Memᴰ.cast (sym w.2 ∙ same_edge w.0)
      (Memᴰ.map (edge_drawn ρ t o) (passing_in (holds_now ρ t) 64 w.0 (omega arith) held))

  to_row : (x : Edge) → Memᴰ x (edges_drawn ρ (Lock t o)) → Memᴰ x (edges_from (row_after ρ t) t o)
  to_row x m =
      let w = Memᴰ.of_map (edge_drawn ρ t o) (passing (holds_now ρ t) 64) m in
      let held = locks_are_held ρ acc t w.0 ∙ passing_out (holds_now ρ t) 64 w.0 w.1 in
      Memᴰ.cast (sym w.2 ∙ sym (same_edge w.0))
      (Memᴰ.map (edge_from (row_after ρ t) t o) ((has_tells (locks_after ρ t) w.0).0 held))

  -- The list afterwards has the edges of the list before and those of the row.
  pub list_members : (x : Edge) → Memᴰ x (edge_list (ρ ▸ Lock t o))
      ↔ (Memᴰ x (edge_list ρ) ⊎ Memᴰ x (edges_from (row_after ρ t) t o))
  list_members x = (
    λ m. ⊎_elim (λ n. inr (to_row x n)) (λ n. inl (sorted_all rank_edge edge_order blank_edge (all_drawn ρ) edge_same x n))
        (Memᴰ.append_cases (edges_drawn ρ (Lock t o))
        (sorted_only rank_edge edge_order blank_edge (all_drawn (ρ ▸ Lock t o)) x m)),
    λ m. sorted_all rank_edge edge_order blank_edge (all_drawn (ρ ▸ Lock t o)) edge_same x
        (⊎_elim (λ n. Memᴰ.append_right (edges_drawn ρ (Lock t o))
        (sorted_only rank_edge edge_order blank_edge (all_drawn ρ) x n))
        (λ n. Memᴰ.append_left (all_drawn ρ) (from_row x n)) m),
  )

-- ---- a list that holds the edges of the recording

-- The new ones find places exactly where all of them have a place.
room_from : (all old new free : ℕ) → all ≡ old + new → (ltb free new ≡ false) ↔ (all ≤ old + free)
room_from all old new free e = (λ f. omega (arith, ltb-false free new f), λ k. le-ltb free new (omega arith))

module _ (ρ : Recording) (acc : Accepted ρ) (t o : ℕ) (h : Held Edge) (is : h.records ≡ edge_list ρ) (r : ThreadRow)
    (at : r ≡ row_after ρ t) where
  ascends : Ascending rank_edge h.records
  ascends = subst (Ascending rank_edge) (sym is) (list_ascends ρ)

  differ : AllDiffer (edges_from r t o)
  differ = edges_differ r t o (subst (λ q. Different q.locks) (sym at) (locks_different ρ acc t))

  members : (x : Edge) → Memᴰ x (edge_list (ρ ▸ Lock t o)) ↔ (Memᴰ x h.records ⊎ Memᴰ x (edges_from r t o))
  members x =
      subst (λ q. Memᴰ x (edge_list (ρ ▸ Lock t o)) ↔ (Memᴰ x h.records ⊎ Memᴰ x (edges_from q t o))) (sym at)
      (subst (λ l. Memᴰ x (edge_list (ρ ▸ Lock t o)) ↔ (Memᴰ x l ⊎ Memᴰ x (edges_from (row_after ρ t) t o)))
      (sym is)
      (list_members ρ acc t o x))

  pub list_room : (crowded h (edges_from r t o) ≡ false)
      ↔ (length (edge_list (ρ ▸ Lock t o)) ≤ length h.records + length h.free)
  list_room =
      room_from (length (edge_list (ρ ▸ Lock t o))) (length h.records) (new_among h.records (edges_from r t o))
      (length h.free)
      (new_count h.records (edges_from r t o) ascends differ (edge_list (ρ ▸ Lock t o)) (list_ascends (ρ ▸ Lock t o)) members)

  pub list_drawn : crowded h (edges_from r t o) ≡ false → (drawn_into h (edges_from r t o)).records ≡ edge_list (ρ ▸ Lock t o)
  list_drawn e =
      filled_is h.records (edges_from r t o) ascends differ (edge_list (ρ ▸ Lock t o)) (list_ascends (ρ ▸ Lock t o)) members
      h.free (ltb-false (length h.free) (new_among h.records (edges_from r t o)) e)
