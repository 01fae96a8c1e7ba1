-- The circles of a report over a recording are those in which it can stop.
-- Assumes nothing.
use Rattle.std.proofs.Common.{◌≡◌, ℕ, ◌≤◌, Bool, true, false, eqb, ltb, ◌↔◌, List, [], ◌∷◌, map, length, sym, refl, ap, ◌∙◌, subst, subst₂, ⊎_elim, arith}
use mathlib.Core.List.{Memᴰ}
use Rattle.std.specs.List.{AllByRecursion}
use Rattle.std.proofs.ByRecursion.{All-weaker}
use Rattle.std.proofs.lemmas.Bool.{and_from, lt-ltb, eq-eqb, cases_Bool, false≢true}
use Rattle.sorted_list.proofs.Members.{unique}
use Rattle.rows.specs.Circles.{IsCircle, steps_of}
use Rattle.rows.specs.Edges.{is_edge, blank_edge}
use Rattle.rows.specs.declared.edge.Edge.{Edge}
use Rattle.rows.specs.declared.row.CircleRow.{CircleRow}
use Rattle.rows.specs.declared.step.Step.{Step}
use Rattle.rows.specs.OrderLaws.{row_order}
use Rattle.recording.specs.Recording.{Recording}
use Rattle.recording.specs.Halts.{CanStop}
use Rattle.recording.specs.Ledger.{Accepted}
use Rattle.recording.specs.Segments.{Parallel}
use Rattle.recording.specs.Edges.{Drawn}
use Rattle.recording.specs.Chains.{step, Apart, Pairwise, wanted_at_last, IsChain, Closes}
use Rattle.recording.specs.EdgeList.{edge_list}
use Rattle.recording.specs.Enumeration.{Unordered, row_at, EdgeAt, IsChainAt}
use Rattle.recording.specs.Answers.{steps_at, closed, circle_row, circles, GivenBy}
use Rattle.recording.specs.Reports.{Tells, ReportsAreStops, ReportsTellStops}
use Rattle.recording.proofs.Members.{at_member, place_of}
use Rattle.recording.proofs.Circles.{circles_are_stops}
use Rattle.recording.proofs.Drawing.{drawn_is_edge, edge_passes, edges_are_listed}
use Rattle.recording.proofs.Reporting.{closes_circle, row_steps, reports}

pairwise_weaker : {X : Type 0} (R S : X → X → Type 0) → ((x y : X) → R x y → S x y) → (xs : List X) → Pairwise R xs → Pairwise S xs
pairwise_weaker R S f [] h = tt
pairwise_weaker R S f (x ∷ xs) h = (All-weaker (R x) (S x) (f x) xs h.0, pairwise_weaker R S f xs h.1)

-- A chain by one relation is one by a weaker relation.
chain_weaker : (R S : ℕ → ℕ → Type 0) → ((x y : ℕ) → R x y → S x y) → (e : Edge) (es : List Edge) → IsChain R e es → IsChain S e es
chain_weaker R S f e es c = record {
  linked = c.linked;
  apart = pairwise_weaker (Apart R) (Apart S) (λ x y a. (a.0, a.1, f x.segment y.segment a.2)) (e ∷ es) c.apart;
  smallest = c.smallest;
}

closed_steps : (s : Step) (zs : List Step) → 2 ≤ length (s ∷ zs) → wanted_at_last s.wanted zs ≡ s.held → closed (s ∷ zs) ≡ true
closed_steps s zs two e =
    and_from (ltb 0 (length zs)) (eqb (wanted_at_last s.wanted zs) s.held) (lt-ltb 0 (length zs) (omega arith)) (eq-eqb _ _ e)

module _ (ρ : Recording) (acc : Accepted ρ) (precedes : ℕ → ℕ → Bool) (tells : Tells precedes ρ) where
  abbrev rows : List Edge
  rows = edge_list ρ

  told_parallel : (x y : ℕ) → Unordered precedes x y → Parallel ρ x y
  told_parallel x y u = (λ z. false≢true (sym u.0 ∙ (tells x y).1 z), λ z. false≢true (sym u.1 ∙ (tells y x).1 z))

  not_told : (x y : ℕ) → ((tells_it : precedes x y ≡ true) → ⊥) → precedes x y ≡ false
  not_told x y n = ⊎_elim (λ t. absurd (n t)) (λ f. f) (cases_Bool (precedes x y))

  parallel_told : (x y : ℕ) → Parallel ρ x y → Unordered precedes x y
  parallel_told x y p = (not_told x y (λ t. p.0 ((tells x y).0 t)), not_told y x (λ t. p.1 ((tells y x).0 t)))

  -- ---- from the report to a stop

  drawn_at : (ps : List ℕ) → AllByRecursion (EdgeAt rows) ps → AllByRecursion (Drawn ρ) (map (row_at rows) ps)
  drawn_at [] h = tt
  drawn_at (p ∷ ps) h =
      (((edges_are_listed ρ acc).members (row_at rows p)).0 (at_member rows p blank_edge h.0.0), drawn_at ps h.1)

  abbrev Stop : CircleRow → Type 0
  Stop r = (c : List Step) × IsCircle c × (2 ≤ length c) × CanStop ρ c × (r ≡ circle_row c)

  to_stop : (r : CircleRow) (ps : List ℕ) → IsChainAt rows precedes ps → closed (steps_at rows ps) ≡ true
      → r ≡ circle_row (steps_at rows ps) → Stop r
  to_stop r [] c k e = absurd c
  to_stop r (p ∷ ps) c k e =
      let first = row_at rows p in
      let rest = map (row_at rows) ps in
      let (circle, two, back) = closes_circle (Unordered precedes) first rest c.1 k in
      let closes : Closes (Drawn ρ) (Parallel ρ) (map step (first ∷ rest)) = record {
        first = first;
        rest = rest;
        drawn = drawn_at (p ∷ ps) c.0;
        chain = chain_weaker (Unordered precedes) (Parallel ρ) told_parallel first rest c.1;
        closed = back;
        gives = refl;
      } in
      (map step (first ∷ rest), circle, two, (circles_are_stops ρ acc (map step (first ∷ rest)) circle two).0 closes, e)

  -- ---- from a stop to the report

  record Placed (es : List Edge) : Type 0 where
    places : List ℕ
    valid : AllByRecursion (EdgeAt rows) places
    are : map (row_at rows) places ≡ es

  abbrev PlacedOne : Edge → Type 0
  PlacedOne e = (p : ℕ) × EdgeAt rows p × (row_at rows p ≡ e)

  placed_one : (e : Edge) → Drawn ρ e → PlacedOne e
  placed_one e d =
      let w = place_of blank_edge (((edges_are_listed ρ acc).members e).1 d) in
      (w.0, (w.1, ap is_edge w.2 ∙ edge_passes e (drawn_is_edge ρ acc e d)), w.2)

  placed : (es : List Edge) → AllByRecursion (Drawn ρ) es → Placed es
  placed [] h = record { places = []; valid = tt; are = refl }
  placed (e ∷ es) h =
      let one = placed_one e h.0 in
      let more = placed es h.1 in
      record {
        places = one.0 ∷ more.places;
        valid = (one.1, more.valid);
        are = ap (λ x. x ∷ map (row_at rows) more.places) one.2 ∙ ap (λ l. e ∷ l) more.are;
      }

  from_closes : (r : CircleRow) (c : List Step) → 2 ≤ length c → Closes (Drawn ρ) (Parallel ρ) c → r ≡ circle_row c
      → GivenBy rows precedes r
  from_closes r c two k e =
      let one = placed_one k.first k.drawn.0 in
      let more = placed k.rest k.drawn.1 in
      let same : map (row_at rows) (one.0 ∷ more.places) ≡ k.first ∷ k.rest =
      ap (λ x. x ∷ map (row_at rows) more.places) one.2 ∙ ap (λ l. k.first ∷ l) more.are in
      let steps : steps_at rows (one.0 ∷ more.places) ≡ c = ap (map step) same ∙ k.gives in
      record {
        places = one.0 ∷ more.places;
        chain = (
          (one.1, more.valid),
          subst₂ (IsChain (Unordered precedes)) (sym one.2) (sym more.are)
              (chain_weaker (Parallel ρ) (Unordered precedes) parallel_told k.first k.rest k.chain),
        );
        closes =
            ap closed (steps ∙ sym k.gives)
            ∙ closed_steps (step k.first) (map step k.rest) (subst (λ l. 2 ≤ length l) (sym k.gives) two) k.closed;
        gives = e ∙ ap circle_row (sym steps);
      }

  pub report_is_stops : (r : CircleRow) → Memᴰ r (circles rows precedes) ↔ Stop r
  report_is_stops r = (
    λ m. let g = ((reports rows precedes).members r).0 m in to_stop r g.places g.chain g.closes g.gives,
    λ s. ((reports rows precedes).members r).1
        (from_closes r s.0 s.2 ((circles_are_stops ρ acc s.0 s.1 s.2).1 s.3) s.4),
  )

pub reports_are_stops : ReportsAreStops
reports_are_stops = report_is_stops

-- ---- two reports

same_stops : (ρ σ : Recording) → Accepted ρ → Accepted σ → (first second : ℕ → ℕ → Bool) → Tells first ρ → Tells second σ
    → circles (edge_list ρ) first ≡ circles (edge_list σ) second → (c : List Step) → IsCircle c → 2 ≤ length c → CanStop ρ c
    → CanStop σ c
same_stops ρ σ okρ okσ first second one two e c circle many stop =
    let r = circle_row c in
    let m = (report_is_stops ρ okρ first one r).1 (c, circle, many, stop, refl) in
    let small : length c ≤ 64 = ((reports (edge_list ρ) first).each r m).0.count in
    let (d, _, _, there, g) = (report_is_stops σ okσ second two r).0 (subst (λ l. Memᴰ r l) e m) in
    let long : length c ≡ length d = ap (λ x. x.count) g in
    let same : d ≡ c = sym (row_steps d (omega arith)) ∙ ap steps_of (sym g) ∙ row_steps c small in
    subst (CanStop σ) same there

same_circles : (ρ σ : Recording) → Accepted ρ → Accepted σ → (first second : ℕ → ℕ → Bool) → Tells first ρ → Tells second σ
    → ((c : List Step) → IsCircle c → 2 ≤ length c → CanStop ρ c → CanStop σ c) → (r : CircleRow)
    → Memᴰ r (circles (edge_list ρ) first) → Memᴰ r (circles (edge_list σ) second)
same_circles ρ σ okρ okσ first second one two f r m =
    let (c, circle, many, stop, g) = (report_is_stops ρ okρ first one r).0 m in
    (report_is_stops σ okσ second two r).1 (c, circle, many, f c circle many stop, g)

pub reports_tell_stops : ReportsTellStops
reports_tell_stops ρ σ okρ okσ first second one two = (
  λ e c circle many. (
    same_stops ρ σ okρ okσ first second one two e c circle many,
    same_stops σ ρ okσ okρ second first two one (sym e) c circle many,
  ),
  λ f.
      unique row_order (circles (edge_list ρ) first) (circles (edge_list σ) second)
      (reports (edge_list ρ) first).ascends (reports (edge_list σ) second).ascends
      (same_circles ρ σ okρ okσ first second one two (λ c circle many. (f c circle many).0))
      (same_circles σ ρ okσ okρ second first two one (λ c circle many. (f c circle many).1)),
)
