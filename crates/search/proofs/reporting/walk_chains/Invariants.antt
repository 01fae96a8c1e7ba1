use Rattle.std.proofs.Common.{◌≡◌, ◌-◌, length}
use Rattle.search.proofs.Counting.{Progress}
use Rattle.search.proofs.reporting.walk_chains.Given as goal

abbrev pub invariant-loop-graph : goal.invariant-loop-graph
invariant-loop-graph g l =
    Progress l.graph.rows.now (g.O.SegmentOrder.meaning l.graph.order.now).before l.budget (length l.fn.circles.places.now)
    l.stack l.tally l.circles
    × (l.circles.places.ghost_name ≡ l.fn.circles.places.ghost_name)

abbrev pub decreases-loop-graph : goal.decreases-loop-graph
decreases-loop-graph g l = l.budget - l.tally.chains
