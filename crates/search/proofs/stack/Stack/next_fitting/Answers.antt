use Rattle.std.proofs.Common.{get_or, sym, ap, ◌∙◌, arith}
use Rattle.rows.specs.Edges.{blank_edge}
use Rattle.std.proofs.lemmas.List.{get_or_default}
use Rattle.recording.specs.Walks.{may_follow}
use Rattle.recording.proofs.Firsts.{first_found, both_none, both_here, both_on}
use Rattle.search.specs.Indexes.{holding}
use Rattle.search.specs.Stacks.{edges}
use Rattle.search.proofs.Blocks.{zero_edge}
use Rattle.search.proofs.Stacking.{top_is, wanted_small, follows_holds}
use Rattle.search.proofs.stack.Stack.next_fitting.Goals as goal

pub next_holding-requires : goal.next_holding-requires
next_holding-requires g c =
    let is = top_is c.args.self.now c.deref.result.now c.in-Some.top.now c.deref.ensures.0 c.in-Some.ensures.value in (
      wanted_small c.args.self.now c.in-Some.top.now is c.args.graph.now.rows.now
          (g.O.SegmentOrder.meaning c.args.graph.now.order.now).before c.requires,
      c.args.graph.now.indexed,
    )

pub bounds-graph-place : goal.bounds-graph-place
bounds-graph-place g c =
    (first_found (holding c.in-Some.top.now.edge.wanted) c.args.graph.now.rows.now c.loop-place.at c.in-Some-next_holding.place
    (sym c.in-Some-next_holding.ensures)).within

pub offset_bounds-graph-place : goal.offset_bounds-graph-place
offset_bounds-graph-place g c =
    let w = first_found (holding c.in-Some.top.now.edge.wanted) c.args.graph.now.rows.now c.loop-place.at c.in-Some-next_holding.place
    (sym c.in-Some-next_holding.ensures) in
    omega (arith, w.within)

pub fits-requires-clause-holds : goal.fits-requires-clause-holds
fits-requires-clause-holds g c =
    let rows = c.args.graph.now.rows.now in
    let t = c.in-Some.top.now in
    let x = c.in-Some-next_holding.place in
    let is = top_is c.args.self.now c.deref.result.now t c.deref.ensures.0 c.in-Some.ensures.value in
    let w = first_found (holding t.edge.wanted) rows c.loop-place.at x (sym c.in-Some-next_holding.ensures) in
    ap (λ l. holding l.edge.wanted (get_or rows x zero_edge)) (sym is.is)
    ∙ ap (holding t.edge.wanted) (get_or_default rows x zero_edge blank_edge w.within) ∙ w.passes

pub overflow_add-at : goal.overflow_add-at
overflow_add-at g c =
    let w = first_found (holding c.in-Some.top.now.edge.wanted) c.args.graph.now.rows.now c.loop-place.at c.in-Some-next_holding.place
    (sym c.in-Some-next_holding.ensures) in
    omega (arith, w.within)

pub loop-place-smaller : goal.loop-place-smaller
loop-place-smaller g c =
    let w = first_found (holding c.in-Some.top.now.edge.wanted) c.args.graph.now.rows.now c.loop-place.at c.in-Some-next_holding.place
    (sym c.in-Some-next_holding.ensures) in
    omega (arith, w.within, w.since)

pub returns-then-fits : goal.returns-then-fits
returns-then-fits g c =
    let s = c.args.self.now in
    let rows = c.args.graph.now.rows.now in
    let before = (g.O.SegmentOrder.meaning c.args.graph.now.order.now).before in
    let t = c.in-Some.top.now in
    let x = c.in-Some-next_holding.place in
    let is = top_is s c.deref.result.now t c.deref.ensures.0 c.in-Some.ensures.value in
    let found = sym c.in-Some-next_holding.ensures in
    let w = first_found (holding t.edge.wanted) rows c.loop-place.at x found in
    sym (c.loop-place.invariant ∙ both_here (holding t.edge.wanted) (may_follow before (edges s)) (follows_holds s before t is) rows
    c.loop-place.at x found
    (ap (may_follow before (edges s)) (get_or_default rows x blank_edge _ w.within) ∙ sym c.if-fits.ensures))

pub loop-place-preserved : goal.loop-place-preserved
loop-place-preserved g c =
    let s = c.args.self.now in
    let rows = c.args.graph.now.rows.now in
    let before = (g.O.SegmentOrder.meaning c.args.graph.now.order.now).before in
    let t = c.in-Some.top.now in
    let x = c.in-Some-next_holding.place in
    let is = top_is s c.deref.result.now t c.deref.ensures.0 c.in-Some.ensures.value in
    let found = sym c.in-Some-next_holding.ensures in
    let w = first_found (holding t.edge.wanted) rows c.loop-place.at x found in
    c.loop-place.invariant ∙ both_on (holding t.edge.wanted) (may_follow before (edges s)) (follows_holds s before t is) rows
    c.loop-place.at x found
    (ap (may_follow before (edges s)) (get_or_default rows x blank_edge _ w.within) ∙ sym c.if-fits.ensures)

pub returns : goal.returns
returns g c =
    let s = c.args.self.now in
    let before = (g.O.SegmentOrder.meaning c.args.graph.now.order.now).before in
    let t = c.in-Some.top.now in
    let is = top_is s c.deref.result.now t c.deref.ensures.0 c.in-Some.ensures.value in
    sym (c.loop-place.invariant ∙ both_none (holding t.edge.wanted) (may_follow before (edges s)) (follows_holds s before t is)
    c.args.graph.now.rows.now c.loop-place.at (sym c.in_default-next_holding.ensures))
