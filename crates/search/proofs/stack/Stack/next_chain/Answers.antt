use Rattle.std.proofs.Common.{◌≤◌, ltb, [], ◌∷◌, ◌++◌, map, length, get_or, append-nil, sym, refl, ap, ◌∙◌, subst, arith}
use Rattle.rows.specs.Edges.{blank_edge}
use Rattle.std.proofs.lemmas.List.{get_or_default}
use Rattle.recording.specs.Enumeration.{left}
use Rattle.recording.proofs.Walking.{left_is}
use Rattle.search.specs.Stacks.{stacked, places}
use Rattle.search.proofs.Stacking.{places_push, walks_push, walks_pop, edge_top, none_left}
use Rattle.search.proofs.Stepping.{steps_on, steps_end, steps_back, is_more}
use Rattle.search.proofs.stack.Stack.next_chain.Goals as goal

pub loop-place-init : goal.loop-place-init
loop-place-init g c = (
  c.requires,
  left_is c.args.graph.now.rows.now (g.O.SegmentOrder.meaning c.args.graph.now.order.now).before (places c.args.self.now),
)

pub bounds-graph-place : goal.bounds-graph-place
bounds-graph-place g c =
    let before = (g.O.SegmentOrder.meaning c.args.graph.now.order.now).before in
    (steps_on c.args.graph.now.rows.now before c.loop-place.self c.loop-place.invariant.0 c.loop-place.from c.in-Some.place
    (sym c.in-Some.ensures)).within

pub offset_bounds-graph-place : goal.offset_bounds-graph-place
offset_bounds-graph-place g c =
    let before = (g.O.SegmentOrder.meaning c.args.graph.now.order.now).before in
    let on = steps_on c.args.graph.now.rows.now before c.loop-place.self c.loop-place.invariant.0 c.loop-place.from c.in-Some.place
    (sym c.in-Some.ensures) in
    omega (arith, on.within)

pub push-requires : goal.push-requires
push-requires g c =
    let rows = c.args.graph.now.rows.now in
    let before = (g.O.SegmentOrder.meaning c.args.graph.now.order.now).before in
    let on = steps_on rows before c.loop-place.self c.loop-place.invariant.0 c.loop-place.from c.in-Some.place
    (sym c.in-Some.ensures) in
    (on.room, subst (λ e. e.thread ≤ 63) (get_or_default rows c.in-Some.place blank_edge _ on.within) on.thread)

pub returns-in-Some : goal.returns-in-Some
returns-in-Some g c =
    let rows = c.args.graph.now.rows.now in
    let before = (g.O.SegmentOrder.meaning c.args.graph.now.order.now).before in
    let s = c.loop-place.self in
    let x = c.in-Some.place in
    let w = c.loop-place.invariant.0 in
    let on = steps_on rows before s w c.loop-place.from x (sym c.in-Some.ensures) in
    let now = c.loop-place.invariant.1 ∙ on.is in
    record {
      more = sym (ap (λ l. ltb 0 (length l)) now ∙ is_more (places s ++ x ∷ []) (left rows before (places s ++ x ∷ [])));
      next = places_push s c.push.new.self x _ c.push.ensures ∙ sym (ap (λ l. get_or l 0 []) now);
      walks = walks_push s c.push.new.self x _ c.push.ensures rows before w (get_or_default rows x _ blank_edge on.within) on.chain;
    }

pub returns-in_default-pop-clause-more : goal.returns-in_default-pop-clause-more
returns-in_default-pop-clause-more g c =
    let before = (g.O.SegmentOrder.meaning c.args.graph.now.order.now).before in
    let none = none_left (stacked c.loop-place.self) c.in_default-pop.ensures.some.1 in
    let now = c.loop-place.invariant.1 ∙ steps_end c.args.graph.now.rows.now before c.loop-place.self c.loop-place.invariant.0
    c.loop-place.from none (sym c.in_default.ensures) in
    sym (ap (λ l. ltb 0 (length l)) now)

pub returns-in_default-pop-clause-next : goal.returns-in_default-pop-clause-next
returns-in_default-pop-clause-next g c =
    let before = (g.O.SegmentOrder.meaning c.args.graph.now.order.now).before in
    let none = none_left (stacked c.loop-place.self) c.in_default-pop.ensures.some.1 in
    let now = c.loop-place.invariant.1 ∙ steps_end c.args.graph.now.rows.now before c.loop-place.self c.loop-place.invariant.0
    c.loop-place.from none (sym c.in_default.ensures) in
    let still = sym (append-nil (stacked c.pop.new.self)) ∙ sym c.in_default-pop.ensures.rest ∙ none in
    ap (map (λ m. m.place)) still ∙ sym (ap (λ l. get_or l 0 []) now)

pub overflow_add-from : goal.overflow_add-from
overflow_add-from g c =
    let rows = c.args.graph.now.rows.now in
    let before = (g.O.SegmentOrder.meaning c.args.graph.now.order.now).before in
    let at = (edge_top c.loop-place.self (stacked c.pop.new.self) c.in-Some-pop.top c.in-Some-pop.ensures.rest rows before
    c.loop-place.invariant.0).0.0 in
    omega (arith, at)

pub loop-place-preserved : goal.loop-place-preserved
loop-place-preserved g c =
    let rows = c.args.graph.now.rows.now in
    let before = (g.O.SegmentOrder.meaning c.args.graph.now.order.now).before in
    let s = c.loop-place.self in
    let s' = c.pop.new.self in
    let l = c.in-Some-pop.top in
    let w = c.loop-place.invariant.0 in (
      walks_pop s (stacked s') l c.in-Some-pop.ensures.rest rows before w s' refl,
      c.loop-place.invariant.1 ∙ steps_back rows before s w c.loop-place.from s' l c.in-Some-pop.ensures.rest (sym c.in_default.ensures),
    )
