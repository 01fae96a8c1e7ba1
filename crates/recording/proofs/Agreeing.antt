-- Recordings in which each thread does the same have lists that agree, and equal reports.
-- Assumes nothing.
use Rattle.std.proofs.Common.{◌≡◌, ℕ, ◌<◌, Bool, ◌↔◌, List, [], ◌∷◌, map, length, Ordering, Less, Equal, Greater, sym, refl, ap, ◌∙◌, subst, subst₂, inl, inr, ⊎_elim, arith}
use mathlib.Core.List.Memᴰ
use mathlib.Core.List.{Memᴰ}
use Rattle.std.specs.Cmp.{nat_cmp_is}
use Rattle.std.specs.Ordering.{ordering_then, nat_cmp}
use Rattle.std.specs.List.{AllByRecursion}
use Rattle.std.proofs.ByRecursion.{All-map, All-weaker}
use Rattle.std.proofs.lemmas.List.{length-map, get_or-map}
use Rattle.std.proofs.lemmas.Bool.{cases_eq, ne_eqb}
use Rattle.std.proofs.lemmas.Bool.Decides.{nat_tests, same_from_decides, Decides-like}
use Rattle.sorted_list.specs.Laws.{Ascending}
use Rattle.sorted_list.proofs.Members.{unique}
use Rattle.rows.specs.Edges.{blank_edge}
use Rattle.rows.specs.Circles.{blank_row}
use Rattle.rows.specs.Orders.{rank_edge, rank_row}
use Rattle.rows.specs.declared.edge.Edge.{Edge}
use Rattle.rows.specs.declared.event.Event.TheVariants.{Lock}
use Rattle.rows.specs.OrderLaws.{edge_order}
use Rattle.recording.specs.Recording.{Recording, none, ◌▸◌}
use Rattle.recording.specs.Ledger.{unborn, life, Accepted}
use Rattle.recording.specs.Segments.{next, segment, Parallel}
use Rattle.recording.specs.Edges.{Drawn}
use Rattle.recording.specs.EdgeList.{edge_list}
use Rattle.recording.specs.Enumeration.{row_at, chains}
use Rattle.recording.specs.Answers.{circles_given, circles, judged}
use Rattle.recording.specs.Sorting.{sorted}
use Rattle.recording.specs.SameThreads.{in_segment, WasIn, Renumbers}
use Rattle.recording.specs.Reports.{Tells, segment_at, ListsAgree, SameThreadsList, ReportsAgree, SameThreadsReport}
use Rattle.recording.proofs.Prefixes.{◌⊑◌, now, later, ⊑_init, accepted_init}
use Rattle.recording.proofs.Lives.{live_born, actor_live}
use Rattle.recording.proofs.Numbering.{numbered}
use Rattle.recording.proofs.Latest.{next_grows}
use Rattle.recording.proofs.Members.{all_from, all_both, at_member}
use Rattle.recording.proofs.Drawing.{drawn_spot, edges_are_listed}
use Rattle.recording.proofs.Renumber.{same_threads_renumber}
use Rattle.recording.proofs.Alike.{moved, given_alike, chains_alike}

-- ---- the order of edges

number_lt : (x y : ℕ) → nat_cmp x y ≡ Less → x < y
number_lt x y e = grind (arith, nat_tests)

number_same : (x y : ℕ) → nat_cmp x y ≡ Equal → x ≡ y
number_same x y e = grind (arith, nat_tests)

then_less : (a x y : Ordering) → (a ≡ Equal → x ≡ Less → y ≡ Less) → ordering_then a x ≡ Less → ordering_then a y ≡ Less
then_less Less x y f h = refl
then_less Equal x y f h = f refl h
then_less Greater x y f h = h

last_less : (k : Ordering) → ordering_then k Equal ≡ Less → k ≡ Less
last_less Less h = refl
last_less Equal h = h
last_less Greater h = h

segment_below : (ρ : Recording) → Accepted ρ → (e : Edge) → Drawn ρ e → e.segment < next ρ
segment_below ρ acc e d =
    let s = drawn_spot ρ e d in
    omega (
      arith,
      s.segment_is,
      (numbered s.before (accepted_init (⊑_init s.is) acc)).below e.thread,
      next_grows (⊑_init s.is),
    )

-- The segment of a drawn edge is one that its thread was in.
was_now : (ρ : Recording) (t : ℕ) → (life ρ t ≡ unborn → ⊥) → WasIn ρ t (segment ρ t)
was_now none t born = (⊎_elim (λ e. e) (λ d. absurd (born (rw (ne_eqb t 0 d)))) (cases_eq t 0), refl)
was_now (ρ ▸ a) t born = inr (born, refl)

was_kept : (t x : ℕ) {σ ρ : Recording} → σ ⊑ ρ → WasIn σ t x → WasIn ρ t x
was_kept t x (now p) w = subst (λ r. WasIn r t x) p w
was_kept t x (later h) w = inl (was_kept t x h w)

drawn_was : (ρ : Recording) → Accepted ρ → (e : Edge) → Drawn ρ e → WasIn ρ e.thread e.segment
drawn_was ρ acc e d =
    let s = drawn_spot ρ e d in
    let t = e.thread in
    let live = actor_live s.before (Lock t e.wanted) (accepted_init s.is acc).1 in
    subst (WasIn ρ t) (sym s.segment_is)
    (was_kept t (segment s.before t) (⊑_init s.is) (was_now s.before t (live_born s.before t live)))

module _
    (ρ σ : Recording) (okρ : Accepted ρ) (okσ : Accepted σ) (r b : ℕ → ℕ) (to : Renumbers ρ σ r) (back : Renumbers σ ρ b)
    (again : (x : ℕ) → x < next σ → r (b x) ≡ x)
  where
    moved_less : (e f : Edge) → Drawn ρ e → Drawn ρ f → rank_edge e f ≡ Less → rank_edge (moved r e) (moved r f) ≡ Less
    moved_less e f d g h =
        then_less (nat_cmp e.thread f.thread) _ _
        (λ t. then_less (nat_cmp e.held f.held) _ _
        (λ _. then_less (nat_cmp e.wanted f.wanted) _ _
        (λ _. then_less (nat_cmp e.guards f.guards) _ _
        (λ _ k.
        let s : e.segment < f.segment = number_lt e.segment f.segment (last_less (nat_cmp e.segment f.segment) k) in
        let there = subst (λ v. WasIn ρ v f.segment) (sym (number_same e.thread f.thread t)) (drawn_was ρ okρ f g) in
        let u = to.ascends e.thread e.segment f.segment (drawn_was ρ okρ e d) there s in
        ap (λ o. ordering_then o Equal) (sym (nat_cmp_is (r e.segment) (r f.segment) Less u))))))
        h

    moved_ascends : (es : List Edge) → AllByRecursion (Drawn ρ) es → Ascending rank_edge es → Ascending rank_edge (map (moved r) es)
    moved_ascends [] d up = tt
    moved_ascends (e ∷ es) d up = (
      All-map (λ y. rank_edge (moved r e) y ≡ Less) (moved r) es
          (All-weaker _ (λ f. rank_edge (moved r e) (moved r f) ≡ Less) (λ f k. moved_less e f d.0 k.0 k.1) es
          (all_both (Drawn ρ) (λ f. rank_edge e f ≡ Less) es d.1 up.0)),
      moved_ascends es d.1 up.1,
    )

    listed_drawn : (e : Edge) → Memᴰ e (edge_list ρ) → Drawn ρ e
    listed_drawn e = ((edges_are_listed ρ okρ).members e).0

    -- The one list is the other, renumbered.
    lists_moved : map (moved r) (edge_list ρ) ≡ edge_list σ
    lists_moved =
        unique edge_order (map (moved r) (edge_list ρ)) (edge_list σ)
        (moved_ascends (edge_list ρ) (all_from (Drawn ρ) (edge_list ρ) listed_drawn) (edges_are_listed ρ okρ).ascends)
        (edges_are_listed σ okσ).ascends
        (λ x m.
        let w = Memᴰ.of_map (moved r) (edge_list ρ) m in
        Memᴰ.cast (sym w.2) (((edges_are_listed σ okσ).members (moved r w.0)).1 (to.edges w.0 (listed_drawn w.0 w.1))))
        (λ f m.
        let d = ((edges_are_listed σ okσ).members f).0 m in
        let e = in_segment (b f.segment) f in
        let same : f ≡ moved r e = ap (λ s. in_segment s f) (sym (again f.segment (segment_below σ okσ f d))) in
        Memᴰ.cast same (Memᴰ.map (moved r) (((edges_are_listed ρ okρ).members e).1 (back.edges f d))))

    module _ (p : ℕ) (h : p < length (edge_list ρ)) where
      row_moved : row_at (edge_list σ) p ≡ moved r (row_at (edge_list ρ) p)
      row_moved = ap (λ l. row_at l p) (sym lists_moved) ∙ get_or-map (moved r) (edge_list ρ) p blank_edge blank_edge h

      row_below : segment_at ρ p < next ρ
      row_below =
          segment_below ρ okρ (row_at (edge_list ρ) p)
          (listed_drawn (row_at (edge_list ρ) p) (at_member (edge_list ρ) p blank_edge h))

      segment_moved : segment_at σ p ≡ r (segment_at ρ p)
      segment_moved = ap (λ e. e.segment) row_moved

    parallel_moved : (p q : ℕ) → p < length (edge_list ρ) → q < length (edge_list ρ)
        → Parallel ρ (segment_at ρ p) (segment_at ρ q) ↔ Parallel σ (segment_at σ p) (segment_at σ q)
    parallel_moved p q h k =
        let x = segment_at ρ p in
        let y = segment_at ρ q in
        let there = to.order x y (row_below p h) (row_below q k) in
        let here = to.order y x (row_below q k) (row_below p h) in
        subst₂ (λ v w. Parallel ρ x y ↔ Parallel σ v w) (sym (segment_moved p h)) (sym (segment_moved q k))
        (λ a. (λ z. a.0 (there.1 z), λ z. a.1 (here.1 z)), λ a. (λ z. a.0 (there.0 z), λ z. a.1 (here.0 z)))

    lists_agree : ListsAgree ρ σ
    lists_agree = record {
      sizes = sym (length-map (edge_list ρ) (moved r)) ∙ ap length lists_moved;
      rows = λ p h. row_moved p h ∙ ap (λ s. in_segment s (row_at (edge_list ρ) p)) (sym (segment_moved p h));
      parallel = parallel_moved;
    }

    module _ (first second : ℕ → ℕ → Bool) (one : Tells first ρ) (two : Tells second σ) where
      alike : (e f : Edge) → Memᴰ e (edge_list ρ) → Memᴰ f (edge_list ρ)
          → first e.segment f.segment ≡ second (r e.segment) (r f.segment)
      alike e f m n =
          let x = e.segment in
          let y = f.segment in
          let o = to.order x y (segment_below ρ okρ e (listed_drawn e m)) (segment_below ρ okρ f (listed_drawn f n)) in
          same_from_decides (first x y) (second (r x) (r y)) (one x y)
          (Decides-like (second (r x) (r y)) o.1 o.0 (two (r x) (r y)))

      chains_agree : chains (edge_list ρ) first ≡ chains (edge_list σ) second
      chains_agree = chains_alike r (edge_list ρ) first second alike ∙ ap (λ l. chains l second) lists_moved

      given_agree : circles_given (edge_list ρ) (chains (edge_list ρ) first) ≡ circles_given (edge_list σ) (chains (edge_list σ) second)
      given_agree =
          given_alike r (edge_list ρ) (chains (edge_list ρ) first)
          ∙ ap (λ l. circles_given l (chains (edge_list ρ) first)) lists_moved
          ∙ ap (circles_given (edge_list σ)) chains_agree

      circles_agree : circles (edge_list ρ) first ≡ circles (edge_list σ) second
      circles_agree = ap (λ l. sorted rank_row blank_row l) given_agree

      reports_agree : ReportsAgree ρ σ first second
      reports_agree = record {
        same_chains = chains_agree;
        same_circles = circles_agree;
        same_answers = λ budget places.
            ap (λ n. judged n (circles (edge_list ρ) first) budget places) (ap length chains_agree)
            ∙ ap (λ l. judged (length (chains (edge_list σ) second)) l budget places) circles_agree;
      }

pub same_threads_list : SameThreadsList
same_threads_list ρ σ okρ okσ same =
    let (r, b, to, back, _, again) = same_threads_renumber ρ σ okρ okσ same in
    lists_agree ρ σ okρ okσ r b to back again

pub same_threads_report : SameThreadsReport
same_threads_report ρ σ okρ okσ same =
    let (r, b, to, back, _, again) = same_threads_renumber ρ σ okρ okσ same in
    reports_agree ρ σ okρ okσ r b to back again
